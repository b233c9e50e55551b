use Rattle.std.proofs.Common.{ap₂, sym, ◌∙◌}
use Rattle.lq_refined_types.specs.Types.Context.{hypotheses_of}
use Rattle.lq_refined_types.specs.Types.Operations.{renamed}
use Rattle.lq_refined_subtyping.specs.Table.Forms.{binder_view}
use Rattle.lq_refined_subtyping.specs.Table.Growing.{extends-at}
use Rattle.lq_refined_subtyping.specs.Table.Whole.{refined_at}
use Rattle.lq_refined_substitution.specs.Substitution.Views.{scopes_view}
use Rattle.lq_refined_types.specs.Subtyping.Subtype.{with_binder}
use Rattle.lq_refined_subtyping.proofs.split.functions.results_under.Goals as goal

pub returns-clause-refined : goal.returns-clause-refined
returns-clause-refined c =
    let S = scopes_view c.args.scopes.now in
    let init = c.args.types.now in
    let now = c.renamed.new.self in
    let new = c.with_binder.new.types in
    let t = refined_at S init c.args.left.result in
    extends-at S now.rows.items new.rows.items c.in_ok-renamed.renamed c.with_binder.ensures.grows c.in_ok-renamed.ensures.there
    ∙ c.in_ok-renamed.ensures.refined S
    ∙ ap₂ (λ z k. renamed S (binder_view c.args.left.binder) z k t) c.shared-name.ensures (c.kind-kind.ensures S)

pub returns-clause-facts : goal.returns-clause-facts
returns-clause-facts c =
    let S = scopes_view c.args.scopes.now in
    let init = c.args.types.now in
    let now = c.renamed.new.self in
    λ Γ e.
    ap₂ (λ z t. hypotheses_of S (with_binder z t Γ)) (sym c.shared-name.ensures)
    (sym (extends-at S init.rows.items now.rows.items c.args.right.argument c.in_ok-renamed.ensures.grows c.requires.right_argument))
    ∙ c.in_ok-env.ensures.facts Γ e
