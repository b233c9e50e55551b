use Rattle.std.proofs.Common.{◌∙◌, [], ◌∷◌, ◌++◌, sym, ap}
use Rattle.lq_refined_instances.specs.Scopes.{Scope, scope_in}
use Rattle.lq_refined_instances.specs.Seen.{visible_view}
use Rattle.lq_refined_instances.specs.Views.{scopes_view}
use Rattle.lq_generate_reading.specs.Visibility.Growing.{scope_pushed}
use Rattle.lq_generate_reading.specs.Visibility.Scopes.{visible_if}
use Rattle.lq_generate_reading.proofs.visibility.bound.with_visible.Goals as goal

pub returns-in_ok-added-in-Some-clause-scope : goal.returns-in_ok-added-in-Some-clause-scope
returns-in_ok-added-in-Some-clause-scope c =
    let old = scopes_view c.args.scopes.now in
    let Γ = scope_in old c.args.scope in
    let X : Scope = Γ ++ visible_view c.in-Some.visible ∷ [] in
    ap (λ l. scope_in l c.in_ok-added-in-Some.added) c.in_ok-added-in-Some.ensures.added
    ∙ (ap (scope_in (old ++ X ∷ [])) c.in_ok-added-in-Some.ensures.number
    ∙ (scope_pushed old X ∙ ap (λ o. Γ ++ visible_if o) (sym c.in-Some.is)))
