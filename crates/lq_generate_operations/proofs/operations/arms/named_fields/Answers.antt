use Rattle.std.proofs.Common.{◌≡◌, ◌∷◌, [], ap, ◌∙◌}
use Rattle.lq_refined_rules.specs.Checks.Match.{fields_by, names_for, value_as}
use Rattle.lq_refined_rules.specs.Checks.Operation.{datatype_of}
use Rattle.lq_refined_rules.specs.Checks.Pure.{type_of_use}
use Rattle.lq_refined_types.specs.Parts.Substitution.{Subst}
use Rattle.lq_refined_templates.specs.Programs.BlockView.{names_view}
use Rattle.lq_refined_templates.specs.Programs.PureView.{use_view}
use Rattle.lq_refined_types.specs.Types.Refined.{arguments_of, matrix_of}
use Rattle.lq_refined_subtyping.specs.Table.Growing.{Extends-trans}
use Rattle.lq_refined_subtyping.specs.Table.Whole.{refined_at}
use Rattle.lq_generate_operations.specs.Basis.Basis.{scopes_of}
use Rattle.lq_generate_operations.specs.Basis.Growing.{stands-grown}
use Rattle.lq_generate_operations.specs.Operations.Fields.{fields_in}
use Rattle.lq_generate_operations.proofs.OperationsLemmas.Datatypes.{fields-same}
use Rattle.lq_generate_operations.proofs.operations.arms.named_fields.Goals as goal

pub returns-clause-by : goal.returns-clause-by
returns-clause-by c =
    let t0 = c.args.types.now in
    let t1 = c.type_of_use.new.types in
    let t2 = c.data_type.new.types in
    let b = c.args.basis.now in
    let n = c.args.constructor.0 in
    let x = c.args.used.name.0 in
    let g = Extends-trans t0.rows.items t1.rows.items t2.rows.items c.type_of_use.ensures.grows c.data_type.ensures.grows in
    λ P Γ s k.
    let u = type_of_use P Γ (use_view c.args.used) in
    let t : refined_at (scopes_of b) t1 c.in_ok-at.at ≡ u = c.in_ok-at.ensures.refined P Γ s k in
    c.in_ok-made.ensures.by P (stands-grown P b t0 t2 g c.requires.there s)
    ∙ ap (λ ts. value_as x ∷ names_for 0 (names_view c.args.fields.now) ts)
    (fields-same P b t2 c.in_ok-of.of Γ x u n [] s.scopes (c.in_ok-of.ensures.name ∙ ap datatype_of t)
    (c.in_ok-of.ensures.arguments ∙ ap arguments_of t) (c.in_ok-of.ensures.matrix ∙ ap matrix_of t))

pub returns-clause-rows : goal.returns-clause-rows
returns-clause-rows c =
    let t0 = c.args.types.now in
    let t1 = c.type_of_use.new.types in
    let t2 = c.data_type.new.types in
    let b = c.args.basis.now in
    let n = c.args.constructor.0 in
    let x = c.args.used.name.0 in
    let xs = names_view c.args.fields.now in
    let g = Extends-trans t0.rows.items t1.rows.items t2.rows.items c.type_of_use.ensures.grows c.data_type.ensures.grows in
    λ P Γ s k.
    let u = type_of_use P Γ (use_view c.args.used) in
    let t : refined_at (scopes_of b) t1 c.in_ok-at.at ≡ u = c.in_ok-at.ensures.refined P Γ s k in
    let same : (θ : Subst) → fields_in P b t2 c.in_ok-of.of n θ ≡ fields_by P Γ x u n θ =
    λ θ. fields-same P b t2 c.in_ok-of.of Γ x u n θ s.scopes (c.in_ok-of.ensures.name ∙ ap datatype_of t)
    (c.in_ok-of.ensures.arguments ∙ ap arguments_of t) (c.in_ok-of.ensures.matrix ∙ ap matrix_of t) in
    c.in_ok-made.ensures.rows P (stands-grown P b t0 t2 g c.requires.there s)
    ∙ same (names_for 0 xs (fields_in P b t2 c.in_ok-of.of n []))
    ∙ ap (λ ts. fields_by P Γ x u n (names_for 0 xs ts)) (same [])
