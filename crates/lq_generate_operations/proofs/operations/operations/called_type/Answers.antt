use Rattle.std.proofs.Common.{◌≡◌, sym, ap, ◌∙◌}
use Rattle.lq_refined_rules.specs.Checks.Pure.{pure_type}
use Rattle.lq_refined_templates.specs.Programs.PureView.{pure_view}
use Rattle.lq_refined_types.specs.Types.Refined.{binder_of, result_of}
use Rattle.lq_refined_subtyping.specs.Table.Growing.{extends-at, Extends-trans}
use Rattle.lq_refined_subtyping.specs.Table.Whole.{refined_at}
use Rattle.lq_generate_operations.specs.Basis.Basis.{scopes_of}
use Rattle.lq_generate_operations.specs.Basis.Growing.{knows-grown, stands-grown}
use Rattle.lq_generate_operations.proofs.OperationsLemmas.Datatypes.{applied-same}
use Rattle.lq_generate_operations.proofs.operations.operations.called_type.Goals as goal

pub returns-clause-refined : goal.returns-clause-refined
returns-clause-refined c =
    let t0 = c.args.types.now in
    let t1 = c.pure_type.new.types in
    let t2 = c.function_type.new.types in
    let t3 = c.pure_atom.new.types in
    let b = c.args.basis.now in
    let S = scopes_of b in
    let g = Extends-trans t0.rows.items t1.rows.items t2.rows.items c.pure_type.ensures.grows c.function_type.ensures.grows in
    λ P Γ s k.
    let t : refined_at S t1 c.in_ok-at.at ≡ pure_type P Γ (pure_view c.args.function.now) = c.in_ok-at.ensures.refined P Γ s k in
    c.in_ok-made.ensures.refined S
    ∙ applied-same (sym s.scopes) (c.in_ok-called.ensures.binder ∙ ap binder_of t)
    (c.in_ok-atom.ensures.atom P Γ (stands-grown P b t0 t2 g c.requires.there s) (knows-grown Γ c.args.names.now b t0 t2 g c.requires.names k))
    (extends-at S t2.rows.items t3.rows.items c.in_ok-called.called.result c.in_ok-atom.ensures.grows c.in_ok-called.ensures.result_there
    ∙ c.in_ok-called.ensures.result ∙ ap result_of t)
