use Rattle.std.proofs.Common.{◌≡◌, ℕ, List, [], ◌++◌, map, reverse, ◌&&◌, not, sym, ap, ap₂, ◌∙◌}
use Rattle.std.proofs.lemmas.List.{append-nil}
use Rattle.lq_logic_predicates.specs.declared.symbol.Symbol.{Symbol}
use Rattle.lq_text_qualifiers.specs.Sorting.Views.{asked_view}
use Rattle.lq_refined_instances.specs.Listed.{is_among, is_wanted, not_among, wanted}
use Rattle.lq_refined_instances.specs.Scopes.{Scope, scope_in}
use Rattle.lq_refined_instances.specs.Seen.{hidden_view, visible_view}
use Rattle.lq_refined_instances.specs.Views.{scopes_view}
use Rattle.lq_refined_instances.specs.declared.scope.Visible.{Visible}
use Rattle.lq_refined_instances.proofs.Walking.{among-none, found-turned, walked}
use Rattle.lq_refined_instances.proofs.listing.walk.Goals as goal

pub loop-addition-init : goal.loop-addition-init
loop-addition-init c =
    let Γ = wanted (asked_view c.args.shape) (scope_in (scopes_view c.args.scopes.now) c.args.at) in
    let nothing : map visible_view (reverse c.new.result.items) ≡ [] = ap (λ (l : List Visible). map visible_view (reverse l)) c.new.ensures.items in
    let shown : not_among c.no_symbols.result.keys Γ ≡ Γ = ap (λ (xs : List Symbol). not_among xs Γ) c.no_symbols.ensures ∙ among-none Γ in
    sym (ap₂ (λ (l r : Scope). l ++ r) shown nothing ∙ append-nil Γ)

pub loop-addition-preserved : goal.loop-addition-preserved
loop-addition-preserved c =
    let w = asked_view c.args.shape in
    let all = scopes_view c.args.scopes.now in
    let xs = c.loop-addition.walk.hidden.keys in
    let old = c.loop-addition.walk.found.items in
    let a = c.in-Some.addition in
    let v = visible_view a.visible in
    let more = map visible_view (reverse c.take.new.self.found.items) in
    let turned = found-turned visible_view (is_wanted w v && not (is_among xs v.0)) old c.take.new.self.found.items a.visible c.in_ok-take.ensures.found in
    c.loop-addition.invariant
    ∙ walked w xs (hidden_view a.hidden) (scope_in all a.parent) (scope_in all c.loop-addition.walk.left) v (map visible_view (reverse old)) more c.in-Some.ensures.visible turned
    ∙ ap₂ (λ (ys : List Symbol) (n : ℕ). not_among ys (wanted w (scope_in all n)) ++ more) (sym c.in_ok-take.ensures.hidden) (sym c.in_ok-take.ensures.left)
