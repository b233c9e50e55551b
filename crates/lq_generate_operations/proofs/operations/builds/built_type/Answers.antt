use Rattle.std.proofs.Common.{◌≡◌, map, ap, ap₂, ◌∙◌}
use Rattle.lq_refined_rules.specs.Checks.Operation.{built_arguments, datatype_of}
use Rattle.lq_refined_types.specs.Parts.Part.{known}
use Rattle.lq_refined_types.specs.Parts.Substitution.{formula_by}
use Rattle.lq_refined_templates.specs.Programs.PureView.{pures_view}
use Rattle.lq_refined_types.specs.Types.Refined.{arguments_of, matrix_of}
use Rattle.lq_refined_subtyping.specs.Table.Forms.{each}
use Rattle.lq_refined_subtyping.specs.Table.Whole.{refined_at, types_of}
use Rattle.lq_generate_operations.specs.Basis.Basis.{scopes_of}
use Rattle.lq_generate_operations.specs.Basis.Growing.{stands-grown}
use Rattle.lq_generate_operations.proofs.OperationsLemmas.Datatypes.{data-same}
use Rattle.lq_generate_operations.proofs.operations.builds.built_type.Goals as goal

pub returns-clause-refined : goal.returns-clause-refined
returns-clause-refined c =
    let t0 = c.args.types.now in
    let t1 = c.operands_for.new.types in
    let t2 = c.template.new.types in
    let t3 = c.data_type.new.types in
    let b = c.args.basis.now in
    let S = scopes_of b in
    let es = pures_view c.args.operands.now in
    λ P Γ s k.
    let t : refined_at S t2 c.in_ok-at.at ≡ P.template c.args.point =
    c.in_ok-at.ensures.refined P (stands-grown P b t0 t1 c.operands_for.ensures.grows c.requires.there s) in
    c.in_ok-made.ensures.refined S
    ∙ data-same (c.in_ok-name.ensures.name ∙ ap datatype_of t)
    (c.in_ok-inside.ensures.refined
    ∙ ap (built_arguments es) (ap (each (types_of S t3)) c.deref.ensures.value ∙ c.in_ok-name.ensures.arguments ∙ ap arguments_of t))
    (c.in_ok-name.ensures.matrix ∙ ap matrix_of t)
    (c.in_ok-equations.ensures
    ∙ ap₂ (λ θ qs. map (λ q. known (formula_by θ q)) qs) (c.in_ok-by.ensures.operands P Γ s k) (s.equations c.args.constructor.0))
