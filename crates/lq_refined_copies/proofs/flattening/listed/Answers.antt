use Rattle.std.proofs.Common.{◌≡◌, ◌∙◌, ◌+◌, [], ◌∷◌, ◌++◌, get_or, map, take, refl, sym, ap}
use Rattle.std.proofs.lemmas.List.{map_more}
use Rattle.lq_refined_instances.specs.Scopes.{scope_in, Scope}
use Rattle.lq_refined_instances.specs.Seen.{visible_view}
use Rattle.lq_refined_instances.specs.Views.{scopes_view}
use Rattle.lq_refined_instances.specs.declared.scope.Visible.{Visible}
use Rattle.lq_logic_predicates.specs.declared.symbol.Symbol.TheVariants.{Value}
use Rattle.lq_text_qualifiers.specs.declared.sorting.shape.Shape.TheVariants.{Int}
use Rattle.lq_refined_copies.specs.Completed.{completed}
use Rattle.lq_refined_copies.specs.Flattening.{is_nothing}
use Rattle.lq_refined_copies.proofs.Completing.{first_empty, first_there, something}
use Rattle.lq_refined_copies.proofs.Longer.{longer_same, longer_trans, scope_kept}
use Rattle.lq_refined_copies.proofs.flattening.listed.Goals as goal

pub loop-visible-init : goal.loop-visible-init
loop-visible-init c = record {
  longer = longer_same (scopes_view c.args.scopes.now);
  there = first_there c.args.scopes.now;
  same = first_empty c.args.scopes.now;
  first = refl;
}

pub loop-visible-preserved : goal.loop-visible-preserved
loop-visible-preserved c =
    let none : Visible = record { symbol = Value; shape = Int } in
    let old = scopes_view c.args.scopes.now in
    let all = scopes_view c.loop-visible.scopes in
    let new = scopes_view c.with_symbol.new.scopes in
    let items = c.deref-visible-items.result.now in
    let i = c.loop-visible.visible-index in
    let h = c.loop-visible.invariant in
    let Δ : Scope = map visible_view (take i items) in
    let v = visible_view (get_or items i none) in
    let Γ = scope_in old c.args.scope in
    let kept : scope_in all c.args.scope ≡ Γ = scope_kept old all c.args.scope h.longer c.requires in
    let more : map visible_view (take (i + 1) items) ≡ Δ ++ v ∷ [] = map_more visible_view items i none c.loop-visible-test.true in
    record {
      longer = longer_trans old all new h.longer c.in_ok-number.ensures.longer;
      there = c.in_ok-number.ensures.there;
      same = c.in_ok-number.ensures.same Δ (h.same ∙ ap (λ (Θ : Scope). completed Θ Δ) (sym kept)) h.first
          ∙ ap (λ (Θ : Scope). completed Θ (Δ ++ v ∷ [])) kept ∙ ap (completed Γ) (sym more);
      first = sym (ap is_nothing more ∙ something Δ v);
    }
