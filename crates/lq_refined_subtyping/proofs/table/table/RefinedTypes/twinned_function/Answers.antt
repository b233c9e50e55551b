use Rattle.std.proofs.Common.{ap, ap₂, ◌∙◌}
use Rattle.lq_refined_types.specs.Types.Operations.{renamed, twin, twin_binder, type_by}
use Rattle.lq_refined_types.specs.Types.Refined.{function}
use Rattle.lq_refined_subtyping.specs.Table.Changes.{changed}
use Rattle.lq_refined_subtyping.specs.Table.Forms.{binder_view}
use Rattle.lq_refined_subtyping.specs.Table.Growing.{extends-at}
use Rattle.lq_refined_subtyping.specs.Table.Whole.{refined_at, types_of}
use Rattle.lq_refined_substitution.specs.Substitution.Views.{subst_view}
use Rattle.lq_refined_subtyping.proofs.table.table.RefinedTypes.twinned_function.Goals as goal

pub returns-clause-refined : goal.returns-clause-refined
returns-clause-refined c =
    let old = c.args.self.now in
    let mid = c.share.new.self in
    let new = c.twinned_result.new.self in
    let x = binder_view c.args.x in
    let θ = subst_view c.args.by.now in
    let a = c.args.a in
    let argument = c.in_ok-argument.argument in
    λ scopes p.
    ap₂ (λ y t. function y t (refined_at scopes new c.in_ok-result.result)) c.twin_binder.ensures
    (extends-at scopes mid.rows.items new.rows.items argument c.twinned_result.ensures.grows c.in_ok-argument.ensures.there
    ∙ c.in_ok-argument.ensures.refined scopes
    ∙ ap (λ d. changed scopes (types_of scopes old) d (refined_at scopes old a)) c.requires.change)
    ∙ ap (function (twin_binder x) (type_by scopes θ (twin scopes (refined_at scopes old a))))
    (c.in_ok-result.ensures.refined scopes
    ∙ ap₂ (λ k t. type_by scopes θ (renamed scopes x (twin_binder x) k (twin scopes t))) (c.kind-kind.ensures scopes)
    (extends-at scopes old.rows.items mid.rows.items c.args.b c.share.ensures.grows c.requires.b))
