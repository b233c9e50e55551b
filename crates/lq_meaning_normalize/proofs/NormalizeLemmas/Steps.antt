-- What goes on behind a part, from what its operand became.
use Rattle.std.proofs.Common.{◌≡◌, ℕ, Bool, true, false, ◌&&◌, if◌then◌else◌, List, [], ◌∷◌, ◌++◌, map, refl, sym, ap, ap₂, ◌∙◌, append_assoc}
use Rattle.lq_base_names.specs.declared.place.Place.{Place}
use Rattle.lq_text_tree.specs.Tree as form
use Rattle.lq_text_tree.specs.Tree.{Tree, tree}
use Rattle.lq_text_walk.specs.Walk.Shape.{One, Two, Three}
use Rattle.lq_meaning_normal_form.specs.Outcomes.Flattening.{Let}
use Rattle.lq_meaning_normalize.specs.Pass.Forming.{Shown, operates_as, Formed, placed, operation, atom, operand, block_of, one_node, two_node, three_node, choice_of, is_choice, is_connective, over_one, after_one, connective, over_two, with_second, after_two, over_choice, choice, over_three, all_three, after_three, formed}
use Rattle.lq_meaning_normalize.specs.Normalize.Frames.{forms, after_left, after_middle, after_last, after_then, after_else}

pub if_true : {A : Type 0} (c : Bool) (x y : A) → c ≡ true → (if c then x else y) ≡ x
if_true true x y h = refl
if_true false x y h = cc

pub if_false : {A : Type 0} (c : Bool) (x y : A) → c ≡ false → (if c then x else y) ≡ y
if_false true x y h = cc
if_false false x y h = refl

module _ (i : ℕ) (p : Place) where
  pub one_goes : (h : One) (t : Tree) (F : Formed) (ls : List Let) (k : ℕ) (b : Bool) (x : Tree) (S : Shown)
      → atom ls k b x ≡ operand t F → S ≡ one_node h i p b x → placed ls k S ≡ after_one h i p t F
  one_goes h t F ls k b x S e f = ap (placed ls k) f ∙ ap (over_one h i p) e

  pub second_goes : (h : Two) (A : Formed) (t : Tree) (F : Formed) (ls : List Let) (k : ℕ) (b : Bool) (x : Tree) (S : Shown)
      → atom ls k b x ≡ operand t F → S ≡ two_node h i p (A.pure && b) A.last x → placed ls k S ≡ after_left h i p A t F
  second_goes h A t F ls k b x S e f = ap (placed ls k) f ∙ ap (over_two h i p A) e

  pub last_goes : (h : Three) (A B : Formed) (t : Tree) (F : Formed) (ls : List Let) (k : ℕ) (b : Bool) (x : Tree) (S : Shown)
      → atom ls k b x ≡ operand t F → S ≡ three_node h i p A.last B.last x → placed ls k S ≡ after_last h i p A B t F
  last_goes h A B t F ls k b x S e f = ap (placed ls k) f ∙ ap (over_three h i p A B) e

  -- ---- the next part

  pub first_of_two : (h : Two) (a b : Tree) (F : Formed) (ls : List Let) (k : ℕ) (q : Bool) (x : Tree) → atom ls k q x ≡ operand a F → is_connective h ≡ false
      → after_left h i p (atom [] 0 q x) b (formed ls k b) ≡ after_two h i p a b F (forms b)
  first_of_two h a b F ls k q x e is_none =
      sym (if_false (is_connective h) (connective h i p (atom ls k q x) (formed [] k b)) (over_two h i p (atom ls k q x) (operand b (formed ls k b))) is_none)
      ∙ ap (λ A. with_second h i p b A (forms b)) e

  abbrev threes : Three → Tree → Tree → Formed → Formed
  threes h b c A = if is_choice h then choice i p A (forms b) (forms c) else all_three h i p b c A (forms b) (forms c)

  pub first_of_three : (h : Three) (a b c : Tree) (F : Formed) (ls : List Let) (k : ℕ) (q : Bool) (x : Tree) → atom ls k q x ≡ operand a F → is_choice h ≡ false
      → after_middle h i p (atom [] 0 true x) b c (formed ls k b) ≡ after_three h i p a b c F (forms b) (forms c)
  first_of_three h a b c F ls k q x e is_none =
      sym (if_false (is_choice h) (choice i p (atom ls k q x) (forms b) (forms c)) (all_three h i p b c (atom ls k q x) (forms b) (forms c)) is_none)
      ∙ ap (threes h b c) e

  pub middle_goes : (h : Three) (A : Formed) (b c : Tree) (F : Formed) (ls : List Let) (k : ℕ) (q : Bool) (y : Tree) → atom ls k q y ≡ operand b F
      → after_last h i p A (atom [] 0 true y) c (formed ls k c) ≡ after_middle h i p A b c F
  middle_goes h A b c F ls k q y e = ap (λ B. over_three h i p A B (operand c (formed B.lets B.next c))) e
