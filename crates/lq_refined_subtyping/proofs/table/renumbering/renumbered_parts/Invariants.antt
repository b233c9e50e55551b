use Rattle.std.proofs.Common.{◌≡◌, map, take}
use Rattle.lq_refined_types.specs.Renumbering.Renumbered.{parts_renumbered}
use Rattle.lq_refined_substitution.specs.Substitution.Views.{part_view, parts_view}
use Rattle.lq_refined_subtyping.proofs.table.renumbering.renumbered_parts.Given as goal

abbrev pub invariant-loop-part : goal.invariant-loop-part
invariant-loop-part l = parts_view l.made ≡ parts_renumbered l.by (map part_view (take l.part-index l.part-items))
