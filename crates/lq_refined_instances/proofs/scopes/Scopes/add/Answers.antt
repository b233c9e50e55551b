use Rattle.std.proofs.Common.{◌≡◌, OnOk, [], ◌∷◌, ◌++◌, subst}
use Rattle.lq_refined_instances.specs.Scopes.{Scope, scope_in}
use Rattle.lq_refined_instances.specs.Seen.{visible_view}
use Rattle.lq_refined_instances.specs.Views.{scopes_view}
use Rattle.lq_refined_instances.proofs.Hiding.{none-counted, without-none}
use Rattle.lq_refined_instances.proofs.scopes.Scopes.add.Goals as goal

pub extend-requires-clause-counted : goal.extend-requires-clause-counted
extend-requires-clause-counted c = none-counted (scope_in (scopes_view c.args.self.now) c.args.parent)

pub returns-clause-added : goal.returns-clause-added
returns-clause-added c =
    let old = scopes_view c.args.self.now in
    subst (λ (Γ : Scope). OnOk c.extend.result (scopes_view c.extend.new.self ≡ old ++ (Γ ++ visible_view c.args.visible ∷ []) ∷ []))
    (without-none (scope_in old c.args.parent)) c.extend.ensures.added
