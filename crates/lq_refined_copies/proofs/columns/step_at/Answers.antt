use Rattle.std.proofs.Common.{◌∙◌, sym, subst}
use Rattle.std.specs.Prelude.{Option}
use Rattle.lq_refined_instances.specs.Scopes.{scope_in, IsCounted}
use Rattle.lq_refined_instances.specs.Seen.{hidden_view, visible_view}
use Rattle.lq_refined_instances.specs.Views.{scopes_view}
use Rattle.lq_refined_instances.specs.declared.scope.Visible.{Visible}
use Rattle.lq_refined_instances.proofs.Hiding.{none-counted, once-counted}
use Rattle.lq_refined_copies.proofs.columns.step_at.Goals as goal

pub returns-then-once : goal.returns-then-once
returns-then-once c =
    let last = c.in-Some.last in
    let Γ = scope_in (scopes_view c.args.table.now) last.parent in
    let h = c.in-Some-hidden.hidden in
    record {
      earlier = c.in-Some.ensures.earlier;
      shown = c.in-Some.ensures.visible;
      counted = subst (λ (o : Option Visible). IsCounted (hidden_view o) Γ) (sym c.in-Some-hidden.is)
          (once-counted (visible_view h) Γ (sym c.in_ok-once-in-Some-hidden.ensures ∙ c.if-once.true));
    }

pub returns-in-None : goal.returns-in-None
returns-in-None c =
    let last = c.in-Some.last in
    let Γ = scope_in (scopes_view c.args.table.now) last.parent in
    record {
      earlier = c.in-Some.ensures.earlier;
      shown = c.in-Some.ensures.visible;
      counted = subst (λ (o : Option Visible). IsCounted (hidden_view o) Γ) (sym c.in-None.is) (none-counted Γ);
    }
