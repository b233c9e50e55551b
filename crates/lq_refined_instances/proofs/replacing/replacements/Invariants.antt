use Rattle.std.proofs.Common.{◌≡◌, map, take}
use Rattle.lq_text_qualifiers.specs.Sorting.Views.{shape_view}
use Rattle.lq_refined_instances.specs.Instances.{replacements}
use Rattle.lq_refined_instances.specs.Scopes.{scope_in}
use Rattle.lq_refined_instances.specs.Views.{scopes_view}
use Rattle.lq_refined_instances.proofs.replacing.replacements.Given as goal

abbrev pub invariant-loop-shape : goal.invariant-loop-shape
invariant-loop-shape l = map (λ v. v.items) l.row.items ≡ replacements (scope_in (scopes_view l.scopes) l.lists.scope) (map shape_view (take l.shape-index l.placeholders))
