use Rattle.std.proofs.Common.{◌≡◌, map, take}
use Rattle.lq_refined_substitution.specs.Substitution.Views.{part_view}
use Rattle.lq_refined_substitution.proofs.substitution.parts.Parts.copy.Given as goal

abbrev pub invariant-loop-part : goal.invariant-loop-part
invariant-loop-part l = map part_view l.items.items ≡ map part_view (take l.part-index l.part-items)
