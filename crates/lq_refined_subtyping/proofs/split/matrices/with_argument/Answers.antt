use Rattle.std.proofs.Common.{◌++◌, sym, ap, ap₂, ◌∙◌}
use Rattle.lq_refined_types.specs.Types.Context.{hypotheses_of}
use Rattle.lq_refined_types.specs.Types.Refined.{top, type_at}
use Rattle.lq_refined_subtyping.specs.Table.Forms.{each}
use Rattle.lq_refined_subtyping.specs.Table.Whole.{types_of}
use Rattle.lq_refined_substitution.specs.Substitution.Views.{scopes_view}
use Rattle.lq_refined_types.specs.Subtyping.Subtype.{with_guards}
use Rattle.lq_refined_subtyping.proofs.SplitLemmas.Contexts.{facts-guards}
use Rattle.lq_refined_subtyping.proofs.SplitLemmas.Rows.{type_at-each, type_at-end}
use Rattle.lq_refined_subtyping.proofs.split.matrices.with_argument.Goals as goal

pub returns-in_ok-added-clause-facts : goal.returns-in_ok-added-clause-facts
returns-in_ok-added-clause-facts c =
    let S = scopes_view c.args.scopes.now in
    let all = types_of S c.args.types.now in
    let now = types_of S c.expose.new.self in
    let row = c.args.arguments.now in
    let i = c.args.parameter in
    λ Γ e. facts-guards S (top (type_at (each all row) i)) Γ
    ∙ ap₂ (λ hs q. hs ++ q) e
    (ap top (type_at-each all row i 0 c.if-at-arguments.true ∙ sym c.in_ok-exposed.ensures.refined ∙ c.node.ensures.refined S) ∙ sym (c.parts.ensures now))
    ∙ sym c.in_ok-added.ensures.facts

pub returns-else-at-arguments-clause-facts : goal.returns-else-at-arguments-clause-facts
returns-else-at-arguments-clause-facts c =
    let S = scopes_view c.args.scopes.now in
    let all = types_of S c.args.types.now in
    λ Γ e. ap (λ t. hypotheses_of S (with_guards (top t) Γ)) (type_at-end all c.args.arguments.now c.args.parameter c.if-at-arguments.false) ∙ e
