use Rattle.std.proofs.Common.{◌∙◌, ◌&&◌, List, ◌∷◌, ◌++◌, [], length, sym, ap}
use Rattle.lq_refined_instances.specs.Scopes.{scope_in}
use Rattle.lq_refined_instances.specs.Seen.{visible_view}
use Rattle.lq_refined_instances.specs.Views.{scopes_view}
use Rattle.lq_refined_instances.proofs.Tables.{in-last}
use Rattle.lq_refined_copies.specs.Flattening.{is_value}
use Rattle.lq_refined_copies.proofs.Completing.{completed_more}
use Rattle.lq_refined_copies.proofs.flattening.with_symbol.Goals as goal
use Rattle.std.specs.Prelude.{Bool}
use Rattle.lq_refined_instances.specs.Scopes.{Scope}

pub returns-clause-same : goal.returns-clause-same
returns-clause-same c = λ Δ at first.
    let old = scopes_view c.args.scopes.now in
    let v = visible_view c.args.visible in
    let Γ = scope_in old c.args.scope in
    ap (scope_in (scopes_view c.add.new.self)) c.in_ok-number.ensures.number
    ∙ ap (λ (all : List Scope). scope_in all (length old)) c.in_ok-number.ensures.added
    ∙ in-last old (scope_in old c.args.parent ++ v ∷ [])
    ∙ ap (λ (Θ : Scope). Θ ++ v ∷ []) at
    ∙ sym (completed_more Γ Δ v (ap (λ (b : Bool). b && is_value c.args.visible.symbol) (sym first) ∙ sym c.is_mark.ensures ∙ c.if-is_mark.false))
