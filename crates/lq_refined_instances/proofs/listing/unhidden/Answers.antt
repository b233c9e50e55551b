use Rattle.std.proofs.Common.{◌≡◌, Vec, Global, Bool, [], ◌∷◌, ◌++◌, map, take, get_or, if◌then◌else◌, refl, sym, ap, ◌∙◌}
use Rattle.std.proofs.lemmas.List.{map-append}
use Rattle.lq_logic_predicates.specs.declared.symbol.Symbol.TheVariants.{Value}
use Rattle.lq_text_qualifiers.specs.declared.sorting.shape.Shape.TheVariants.{Int}
use Rattle.lq_refined_instances.specs.Listed.{not_among}
use Rattle.lq_refined_instances.specs.Scopes.{Scope}
use Rattle.lq_refined_instances.specs.Seen.{visible_view}
use Rattle.lq_refined_instances.specs.declared.scope.Visible.{Visible}
use Rattle.lq_refined_instances.proofs.Taking.{seen-more}
use Rattle.lq_refined_instances.proofs.Walking.{unhidden-step}
use Rattle.lq_refined_instances.proofs.listing.unhidden.Goals as goal
use Rattle.lq_refined_instances.proofs.listing.unhidden.Goals.{then-is_shown+in_ok-push, else-is_shown}

pub loop-visible-preserved : goal.loop-visible-preserved
loop-visible-preserved c =
    let none : Visible = record { symbol = Value; shape = Int } in
    let S = c.args.scope.now in
    let i = c.loop-visible.visible-index in
    let x : Visible = get_or S i none in
    let xs = c.args.hidden.now.keys in
    let before = c.loop-visible.left.items in
    let seen = map visible_view before in
    let next : map visible_view c.if-is_shown.left.items ≡ (if c.is_shown.result then seen ++ visible_view x ∷ [] else seen) =
    elim c.if-is_shown.branch [
      | then-is_shown+in_ok-push w ↦ ap (λ (v : Vec Visible Global). map visible_view v.items) w.left-is ∙ ap (map visible_view) w.in_ok-push.ensures.items
          ∙ map-append visible_view before (x ∷ []) ∙ sym (ap (λ (b : Bool). if b then seen ++ visible_view x ∷ [] else seen) w.if-is_shown.true)
      | else-is_shown w ↦ ap (λ (v : Vec Visible Global). map visible_view v.items) w.left-is
          ∙ sym (ap (λ (b : Bool). if b then seen ++ visible_view x ∷ [] else seen) w.if-is_shown.false)
    ]
    in
    unhidden-step xs (map visible_view (take i S)) (visible_view x) c.is_shown.result seen (map visible_view c.if-is_shown.left.items) c.is_shown.ensures c.loop-visible.invariant next
    ∙ ap (λ (Γ : Scope). not_among xs Γ) (sym (seen-more visible_view S i x none c.loop-visible-test.true refl))
