use Rattle.std.proofs.Common.{◌≡◌, ◌∙◌, ◌<◌, [], ◌∷◌, ◌++◌, length, sym, ap, arith}
use Rattle.std.specs.Prelude.{Option}
use Rattle.lq_refined_instances.specs.Scopes.{scope_in, without}
use Rattle.lq_refined_instances.specs.Seen.{hidden_view, visible_view}
use Rattle.lq_refined_instances.specs.Views.{scopes_view}
use Rattle.lq_refined_instances.specs.declared.scope.Visible.{Visible}
use Rattle.lq_refined_copies.specs.Completed.{completed}
use Rattle.lq_refined_copies.proofs.Completing.{first_empty, shown_all}
use Rattle.lq_refined_copies.proofs.flattening.completed_at.Goals as goal

pub returns-in_default-clause-same : goal.returns-in_default-clause-same
returns-in_default-clause-same c =
    let Γ = scope_in (scopes_view c.args.scopes.now) c.args.scope in
    first_empty c.args.scopes.now ∙ sym (ap (completed Γ) c.in_default.ensures.visible)

pub returns-in_ok-number-in-None-clause-same : goal.returns-in_ok-number-in-None-clause-same
returns-in_ok-number-in-None-clause-same c =
    let table = scopes_view c.args.table.now in
    let Γ = scope_in (scopes_view c.args.scopes.now) c.args.scope in
    let last = c.in-Some.last in
    let Δ = scope_in table last.parent in
    let low : last.parent < length c.args.numbers.now = let e = c.in-Some.ensures.earlier in let k = c.requires.all in omega (arith, e, k) in
    let shown : scope_in table c.args.at ≡ Δ ++ visible_view last.visible ∷ [] =
    shown_all (scope_in table c.args.at) Δ (visible_view last.visible)
    (c.in-Some.ensures.visible ∙ ap (λ (h : Option Visible). without (hidden_view h) Δ ++ visible_view last.visible ∷ []) c.in-None.is)
    in
    c.in_ok-number-in-None.ensures.same Δ (c.requires.made.same last.parent low) c.is_empty-is_first.ensures ∙ ap (completed Γ) (sym shown)
