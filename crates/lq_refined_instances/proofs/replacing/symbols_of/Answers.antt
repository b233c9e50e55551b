use Rattle.std.proofs.Common.{◌≡◌, List, [], ◌∷◌, map, Some, sym, ap, ◌∙◌, arith}
use Rattle.std.proofs.lemmas.Result.{IfOk-weaker}
use Rattle.lq_text_qualifiers.specs.Sorting.Views.{shape_view}
use Rattle.lq_refined_instances.specs.Listed.{wanted}
use Rattle.lq_refined_instances.specs.Scopes.{Scope, scope_in, symbols_of}
use Rattle.lq_refined_instances.specs.Seen.{added_view, visible_view}
use Rattle.lq_refined_instances.specs.Views.{scopes_view}
use Rattle.lq_refined_instances.specs.declared.scope.Visible.{Visible}
use Rattle.lq_refined_instances.proofs.Shaping.{symbols-are}
use Rattle.lq_refined_instances.proofs.Tables.{grown-keeps}
use Rattle.lq_refined_instances.proofs.replacing.symbols_of.Goals as goal

pub returns-in-Some : goal.returns-in-Some
returns-in-Some c =
    let Γ = scope_in (scopes_view c.args.scopes.now) c.args.lists.now.scope in
    let s = shape_view c.args.shape in
    IfOk-weaker c.names.result (λ found. found.items ≡ map (λ v. v.symbol) c.in-Some.items.now) (λ found. found.items ≡ symbols_of Γ s)
    (λ found is. is ∙ symbols-are c.in-Some.items.now Γ s (c.in-Some.ensures Γ c.requires)) c.names.ensures

pub listed-requires : goal.listed-requires
listed-requires c =
    let first : scope_in (scopes_view c.args.scopes.now) 0 ≡ [] = grown-keeps ([] ∷ []) (map added_view c.args.scopes.now.additions.items) 0 (omega arith) in
    ap (map visible_view) (c.deref.ensures.value ∙ c.new-nothing.ensures.items) ∙ sym (ap (λ (Γ : Scope). wanted (Some (shape_view c.args.shape)) Γ) first)

pub returns : goal.returns
returns c =
    let Γ = scope_in (scopes_view c.args.scopes.now) c.args.lists.now.scope in
    let s = shape_view c.args.shape in
    IfOk-weaker c.names-2.result (λ found. found.items ≡ map (λ v. v.symbol) c.deref-2.result.now) (λ found. found.items ≡ symbols_of Γ s)
    (λ found is. is ∙ symbols-are c.deref-2.result.now Γ s (ap (λ (l : List Visible). map visible_view l) c.deref-2.ensures.value ∙ c.in_ok-items.ensures)) c.names-2.ensures
