use Rattle.std.proofs.Common.{ap, ◌∙◌}
use Rattle.lq_refined_types.specs.Types.Unfolding.{unfolded}
use Rattle.lq_refined_subtyping.specs.Table.Forms.{matrix_view}
use Rattle.lq_refined_substitution.specs.Substitution.Views.{subst_view}
use Rattle.lq_refined_types.specs.Subtyping.Subtype.{fields_of}
use Rattle.lq_generate_operations.specs.Basis.Basis.{scopes_of}
use Rattle.lq_generate_operations.specs.Basis.Growing.{each-grown, stands-grown}
use Rattle.lq_generate_operations.specs.Operations.Fields.{fields_in}
use Rattle.lq_generate_operations.proofs.operations.arms.fields_of_type.Goals as goal

pub returns-clause-rows : goal.returns-clause-rows
returns-clause-rows c =
    let t0 = c.args.types.now in
    let t1 = c.field_names.new.types in
    let b = c.args.basis.now in
    let S = scopes_of b in
    let d = c.args.of.now in
    let n = c.args.constructor.0 in
    let θ = subst_view c.in_ok-names.names in
    let g = c.field_names.ensures.grows in
    λ P s.
    c.in_ok-rows.ensures.refined P (stands-grown P b t0 t1 g c.requires.there s)
    ∙ ap (λ ts. unfolded S θ d.name.0 ts (matrix_view d.matrix) n (fields_of (P.setting.constructors n)))
    (each-grown S t0.rows.items t1.rows.items d.arguments.items g c.requires.arguments)
    ∙ ap (fields_in P b t0 d n) (c.in_ok-names.ensures.by P s)
