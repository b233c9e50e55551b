use Rattle.std.proofs.Common.{map, get_or, ap, ◌∙◌}
use Rattle.std.specs.Option.{option_map}
use Rattle.lq_text_qualifiers.specs.Sorting.Views.{shape_view}
use Rattle.lq_text_qualifiers.specs.declared.sorting.shape.Shape.TheVariants.{Int}
use Rattle.lq_refined_instances.proofs.Replaced.{replacements-none}
use Rattle.lq_refined_instances.proofs.Tables.{get-map, read-at}
use Rattle.lq_refined_instances.proofs.replacing.lacks.Goals as goal

pub returns-then-is_missing : goal.returns-then-is_missing
returns-then-is_missing c =
    let P = c.args.placeholders.now in
    let i = c.loop-shape.shape-index in
    λ Γ listed _. replacements-none Γ (map shape_view P) i (shape_view (get_or P i Int))
    (get-map shape_view P i ∙ ap (option_map shape_view) (read-at P i Int c.loop-shape-test.true)) (c.is_missing.ensures Γ listed c.if-is_missing.true)
