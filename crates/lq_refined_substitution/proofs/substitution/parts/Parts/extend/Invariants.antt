use Rattle.std.proofs.Common.{◌≡◌, ◌++◌, map, take}
use Rattle.lq_refined_substitution.specs.Substitution.Views.{part_view, parts_view}
use Rattle.lq_refined_substitution.proofs.substitution.parts.Parts.extend.Given as goal

abbrev pub invariant-loop-part : goal.invariant-loop-part
invariant-loop-part l = parts_view l.self ≡ parts_view l.initial.self ++ map part_view (take l.part-index l.part-items)
