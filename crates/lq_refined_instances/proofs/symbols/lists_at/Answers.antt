use Rattle.std.proofs.Common.{sym, subst}
use Rattle.std.proofs.lemmas.List.Elements.{All-push}
use Rattle.lq_refined_instances.specs.Scopes.{scope_in}
use Rattle.lq_refined_instances.specs.Shaped.{AreListed, IsListed}
use Rattle.lq_refined_instances.specs.Views.{scopes_view}
use Rattle.lq_refined_instances.proofs.symbols.lists_at.Goals as goal

pub loop-list-preserved : goal.loop-list-preserved
loop-list-preserved c =
    let Γ = scope_in (scopes_view c.args.scopes.now) c.args.at in
    subst (AreListed Γ) (sym c.in_ok-push.ensures.items) (All-push (IsListed Γ) c.loop-list.lists.items _ c.loop-list.invariant c.in_ok-symbols.ensures)
