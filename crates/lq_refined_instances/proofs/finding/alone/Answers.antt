use Rattle.std.proofs.Common.{◌≡◌, ◌<◌, ◌≤◌, List, [], ◌∷◌, length, map, take, get_or, sym, ap, subst, ◌∙◌, arith}
use Rattle.std.proofs.lemmas.List.{take_all}
use Rattle.lq_logic_predicates.specs.declared.symbol.Symbol.TheVariants.{Value}
use Rattle.lq_text_qualifiers.specs.Sorting.Views.{shape_view}
use Rattle.lq_text_qualifiers.specs.declared.sorting.shape.Shape.TheVariants.{Int}
use Rattle.lq_refined_instances.specs.Scopes.{Scope, scope_in}
use Rattle.lq_refined_instances.specs.Seen.{visible_view}
use Rattle.lq_refined_instances.specs.Views.{scopes_view, unknown_view}
use Rattle.lq_refined_instances.specs.declared.scope.Visible.{Visible}
use Rattle.lq_refined_instances.proofs.KeptSteps.{added-step}
use Rattle.lq_refined_instances.proofs.Taking.{seen-more}
use Rattle.lq_refined_instances.proofs.finding.alone.Goals as goal

pub loop-visible-init : goal.loop-visible-init
loop-visible-init c =
    let e = c.in_ok-scopes.ensures in
    record { there = subst (λ (l : List Scope). 0 < length l) (sym e) (omega arith); shows = ap (λ (l : List Scope). scope_in l 0) e }

pub loop-visible-preserved : goal.loop-visible-preserved
loop-visible-preserved c =
    let none : Visible = record { symbol = Value; shape = Int } in
    let S = c.deref-visible-items.result.now in
    let T = c.args.scope.now.items.items in
    let i = c.loop-visible.visible-index in
    let x : Visible = get_or S i none in
    let lent : S ≡ T = c.deref-visible-items.ensures.value in
    let long : i < length T = subst (λ (l : List Visible). i < length l) lent c.loop-visible-test.true in
    let p = added-step (scopes_view c.loop-visible.scopes) (scopes_view c.add.new.self) c.loop-visible.last c.in_ok-last.last (map visible_view (take i T)) (visible_view x)
    c.in_ok-last.ensures.added c.in_ok-last.ensures.number c.loop-visible.invariant.shows
    in
    record { there = p.0; shows = p.1 ∙ sym (seen-more visible_view T i x none long (ap (λ (l : List Visible). get_or l i none) lent)) }

pub returns : goal.returns
returns c =
    let T = c.args.scope.now.items.items in
    let i = c.loop-visible.visible-index in
    let done : length T ≤ i = subst (λ (l : List Visible). length l ≤ i) c.deref-visible-items.ensures.value c.loop-visible-test.false in
    ap (map (unknown_view (scopes_view c.loop-visible.scopes))) c.in_ok-unknowns.ensures.items
    ∙ ap (λ (Γ : Scope). (Γ, shape_view c.args.shape) ∷ []) (c.loop-visible.invariant.shows ∙ ap (map visible_view) (take_all i T done))
