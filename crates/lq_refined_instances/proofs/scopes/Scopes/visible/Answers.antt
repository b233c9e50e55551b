use Rattle.std.proofs.Common.{◌≡◌, [], ◌∷◌, map, IfOk, sym, subst, ap, ◌∙◌, arith}
use Rattle.lq_refined_instances.specs.Scopes.{Scope, scope_in}
use Rattle.lq_refined_instances.specs.Seen.{added_view, visible_view}
use Rattle.lq_refined_instances.specs.Views.{scopes_view}
use Rattle.lq_refined_instances.proofs.Tables.{grown-keeps}
use Rattle.lq_refined_instances.proofs.Walking.{wanted-all}
use Rattle.lq_refined_instances.proofs.scopes.Scopes.visible.Goals as goal

pub listed-requires : goal.listed-requires
listed-requires c =
    let first : scope_in (scopes_view c.args.self.now) 0 ≡ [] = grown-keeps ([] ∷ []) (map added_view c.args.self.now.additions.items) 0 (omega arith) in
    ap (map visible_view) (c.deref.ensures.value ∙ c.new-nothing.ensures.items) ∙ sym (wanted-all (scope_in (scopes_view c.args.self.now) 0) ∙ first)

pub returns : goal.returns
returns c =
    subst (λ (Γ : Scope). IfOk c.listed.result (λ f. map visible_view f.items ≡ Γ)) (wanted-all (scope_in (scopes_view c.args.self.now) c.args.at)) c.listed.ensures
