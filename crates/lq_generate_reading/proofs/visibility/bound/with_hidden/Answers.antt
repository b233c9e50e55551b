use Rattle.std.proofs.Common.{◌∙◌, [], ◌∷◌, ◌++◌, Some, ap}
use Rattle.lq_refined_instances.specs.Scopes.{Scope, scope_in, without}
use Rattle.lq_refined_instances.specs.Seen.{visible_view}
use Rattle.lq_refined_instances.specs.Views.{scopes_view}
use Rattle.lq_generate_reading.specs.Visibility.Growing.{scope_pushed}
use Rattle.lq_generate_reading.proofs.visibility.bound.with_hidden.Goals as goal

pub returns-clause-scope : goal.returns-clause-scope
returns-clause-scope c =
    let old = scopes_view c.args.scopes.now in
    let X : Scope = without (Some (visible_view c.args.hidden)) (scope_in old c.args.scope) ++ visible_view c.args.visible ∷ [] in
    ap (λ l. scope_in l c.in_ok-added.added) c.in_ok-added.ensures.added
    ∙ (ap (scope_in (old ++ X ∷ [])) c.in_ok-added.ensures.number
    ∙ scope_pushed old X)
