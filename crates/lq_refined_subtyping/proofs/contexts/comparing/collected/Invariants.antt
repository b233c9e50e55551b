use Rattle.std.proofs.Common.{◌≡◌, map, take}
use Rattle.lq_refined_substitution.specs.Substitution.Views.{part_view, parts_view}
use Rattle.lq_refined_subtyping.proofs.contexts.comparing.collected.Given as goal

abbrev pub invariant-loop-part : goal.invariant-loop-part
invariant-loop-part l = parts_view l.made ≡ map part_view (take l.part-index l.parts)
