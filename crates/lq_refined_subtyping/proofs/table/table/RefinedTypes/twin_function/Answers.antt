use Rattle.std.proofs.Common.{ap, ap₂, ◌∙◌}
use Rattle.lq_refined_types.specs.Types.Operations.{renamed, twin, twin_binder}
use Rattle.lq_refined_types.specs.Types.Refined.{function, kind}
use Rattle.lq_refined_subtyping.specs.Table.Changes.{changed}
use Rattle.lq_refined_subtyping.specs.Table.Forms.{binder_view}
use Rattle.lq_refined_subtyping.specs.Table.Growing.{extends-at}
use Rattle.lq_refined_subtyping.specs.Table.Whole.{refined_at, types_of}
use Rattle.lq_refined_subtyping.proofs.table.table.RefinedTypes.twin_function.Goals as goal

pub returns-clause-refined : goal.returns-clause-refined
returns-clause-refined c =
    let old = c.args.self.now in
    let pair = c.changed_pair.new.self in
    let last = c.renamed.new.self in
    let x = binder_view c.args.x in
    let argument = c.in_ok-argument.argument in
    let result = c.in_ok-argument.result in
    let is = c.in_ok-twin.ensures.ok in
    λ scopes p.
    ap₂ (λ y t. function y t (refined_at scopes last c.in_ok-result.result)) c.twin_binder-other.ensures
    (extends-at scopes pair.rows.items last.rows.items argument c.renamed.ensures.grows c.in_ok-argument.ensures.there_a
    ∙ (c.in_ok-argument.ensures.a scopes ∙ ap (λ d. changed scopes (types_of scopes old) d (refined_at scopes old c.args.a)) is))
    ∙ ap (function (twin_binder x) (twin scopes (refined_at scopes old c.args.a)))
    (c.in_ok-result.ensures.refined scopes
    ∙ ap₂ (λ y k. renamed scopes x y k (refined_at scopes pair result)) c.twin_binder-other.ensures (c.kind-kind.ensures scopes)
    ∙ ap (renamed scopes x (twin_binder x) (kind (refined_at scopes old c.args.a)))
    (c.in_ok-argument.ensures.b scopes ∙ ap (λ d. changed scopes (types_of scopes old) d (refined_at scopes old c.args.b)) is))
