-- The slots of an item as its visits come.
use Rattle.std.proofs.Common.{◌≡◌, ℕ, ◌+◌, List, [], ◌∷◌, ◌++◌, map, sym, ap, ◌∙◌, append_assoc}
use Rattle.std.proofs.lemmas.List.{append-nil}
use Rattle.lq_text_tree.specs.Items.{ItemTree}
use Rattle.lq_text_walk.specs.Walk.Visits.{visits_of_item, visits_of_items}
use Rattle.lq_text_walk.specs.Scoped.Numbers.{nodes_of_form, binders_in}
use Rattle.lq_types_rules.specs.Typings.Fronts.{left_in}
use Rattle.lq_types_rules.specs.Typings.Principal.{own_node, in_order}
use Rattle.lq_types_infer.proofs.InferenceLemmas.Leaving.{items_left}

-- the slot of the first item's own type
abbrev pub own_of : List ItemTree → List ℕ
own_of [] = []
own_of (i ∷ is) = own_node i.form

pub nodes_gone : (i : ItemTree) → left_in (visits_of_items (i ∷ [])) ≡ nodes_of_form i.form
nodes_gone i = items_left (i ∷ []) ∙ append-nil (nodes_of_form i.form)

pub binders_gone : (i : ItemTree) → binders_in (visits_of_items (i ∷ [])) ≡ binders_in (visits_of_item i)
binders_gone i = ap binders_in (append-nil (visits_of_item i))

-- all visits are over
pub in_order_is : (nodes : ℕ) (items : List ItemTree) (i : ItemTree) (slots binders all : List ℕ) → items ≡ i ∷ []
    → slots ++ [] ≡ own_of items ++ left_in (visits_of_items items)
    → binders ++ [] ≡ map (λ x. nodes + x) (binders_in (visits_of_items items)) → all ≡ slots ++ binders → all ≡ in_order nodes i
in_order_is nodes items i slots binders all one left_ bound is =
    let up : ℕ → ℕ = λ x. nodes + x in
    let slots_are : slots ≡ own_node i.form ++ nodes_of_form i.form =
    sym (append-nil slots) ∙ left_ ∙ ap (λ (is : List ItemTree). own_of is ++ left_in (visits_of_items is)) one
    ∙ ap (λ (l : List ℕ). own_node i.form ++ l) (nodes_gone i) in
    let binders_are : binders ≡ map up (binders_in (visits_of_item i)) =
    sym (append-nil binders) ∙ bound ∙ ap (λ (is : List ItemTree). map up (binders_in (visits_of_items is))) one
    ∙ ap (map up) (binders_gone i) in
    is ∙ ap (λ (l : List ℕ). l ++ binders) slots_are ∙ ap (λ (l : List ℕ). (own_node i.form ++ nodes_of_form i.form) ++ l) binders_are
    ∙ append_assoc (own_node i.form) (nodes_of_form i.form) (map up (binders_in (visits_of_item i)))
