use Rattle.std.proofs.Common.{◌≡◌, map, take}
use Rattle.lq_refined_types.specs.Parts.Part.{parts_by}
use Rattle.lq_refined_substitution.specs.Substitution.Views.{part_view, scopes_view, subst_view}
use Rattle.lq_refined_substitution.proofs.substitution.parts.Parts.by.Given as goal

abbrev pub invariant-loop-part : goal.invariant-loop-part
invariant-loop-part l =
    map part_view l.items.items ≡ parts_by (scopes_view l.scopes) (subst_view l.by) (map part_view (take l.part-index l.part-items))
