use Rattle.std.proofs.Common.{◌≡◌, sym, ap, ◌∙◌}
use Rattle.lq_refined_rules.specs.Checks.Operation.{datatype_of}
use Rattle.lq_refined_types.specs.Types.Refined.{arguments_of, matrix_of}
use Rattle.lq_refined_subtyping.specs.Table.Growing.{Extends-trans}
use Rattle.lq_refined_subtyping.specs.Table.Whole.{refined_at}
use Rattle.lq_refined_types.specs.Subtyping.Subtype.{fields_of}
use Rattle.lq_generate_operations.specs.Basis.Basis.{scopes_of}
use Rattle.lq_generate_operations.specs.Basis.Growing.{stands-grown}
use Rattle.lq_generate_operations.proofs.OperationsLemmas.Datatypes.{unfolded-same}
use Rattle.lq_generate_operations.proofs.operations.builds.field_types.Goals as goal

pub returns-clause-refined : goal.returns-clause-refined
returns-clause-refined c =
    let t0 = c.args.types.now in
    let t1 = c.operands_for.new.types in
    let t2 = c.template.new.types in
    let t3 = c.data_type.new.types in
    let b = c.args.basis.now in
    let S = scopes_of b in
    let n = c.args.constructor.0 in
    let g1 = c.operands_for.ensures.grows in
    let g2 = Extends-trans t0.rows.items t1.rows.items t2.rows.items g1 c.template.ensures.grows in
    let g3 = Extends-trans t0.rows.items t2.rows.items t3.rows.items g2 c.data_type.ensures.grows in
    λ P Γ s k.
    let t : refined_at S t2 c.in_ok-at.at ≡ P.template c.args.point = c.in_ok-at.ensures.refined P (stands-grown P b t0 t1 g1 c.requires.there s) in
    c.in_ok-made.ensures.refined P (stands-grown P b t0 t3 g3 c.requires.there s)
    ∙ unfolded-same n (fields_of (P.setting.constructors n)) (sym s.scopes) (c.in_ok-by.ensures.operands P Γ s k)
    (c.in_ok-of.ensures.name ∙ ap datatype_of t) (c.in_ok-of.ensures.arguments ∙ ap arguments_of t) (c.in_ok-of.ensures.matrix ∙ ap matrix_of t)
