-- What the visits of items name, one item after another.
use Rattle.std.specs.Prelude.{◌||◌, ◌==◌, if◌then◌else◌}
use Rattle.std.proofs.Common.{◌≡◌, ℕ, suc, ◌+◌, ◌<◌, Bool, true, false, List, [], ◌∷◌, ◌++◌, Some, None, inl, inr, refl, sym, ap, subst, append_assoc}
use Rattle.std.proofs.lemmas.Bool.{and_parts, or_right, eq-eqb, eqb-true, false≢true}
use Rattle.std.proofs.lemmas.List.Elements.{All-nil}
use Rattle.std.proofs.lemmas.Option.{none-some, same_Some}
use Rattle.lq_text_tree.specs.Items.{ItemTree, ItemForm, type_of, let_of, let_rec_of}
use Rattle.lq_text_tree.specs.Pattern.{pattern, any, bind, nothing, tuple_of, build_of, bound_in}
use Rattle.lq_text_walk.specs.Walk.Visits.{Visit, enter_item, leave_item, enter, leave, leave_function, declare, show, hide, show_name, hide_name, visits_of_form, visits_of_item, visits_of_items}
use Rattle.lq_types_rules.specs.Equations.Gathered.{VisitIn}
use Rattle.lq_text_walk.specs.Scoped.Uses.{is_visible, is_scoped_form, visible_behind, are_scoped}
use Rattle.lq_types_rules.specs.Typings.Uses.{Known, none_known, with_general, with_plain, with_name, behind_form, behind, before_in, is_value}
use Rattle.lq_types_rules.specs.Visits.Laws.{IsOf}
use Rattle.lq_types_rules.specs.Visits.Owning.{item_slots, slots_at, is_slot_of, item_behind, IsOwn, AreOwned}
use Rattle.lq_types_rules.proofs.VisitsLemmas.Lists.{AllOf, all_both, all_weaker, to_all}
use Rattle.lq_types_rules.proofs.VisitsLemmas.Ranges.{visit_in}
use Rattle.lq_types_rules.proofs.VisitsLemmas.Trees.{Inner, IsMine, IsNamed, item_part}

module _ (nodes slots : ℕ) (owner : ℕ → ℕ) where
  -- the nodes and binders of each item are its own, from this number on
  abbrev pub AreMine : ℕ → List ItemTree → Type 0
  AreMine n [] = Unit {0}
  AreMine n (i ∷ is) = AllOf (IsMine nodes (IsOf slots owner n)) (visits_of_form i.form) × AreMine (suc n) is

  mine_weaker : (P Q : ℕ → Type 0) → ((j : ℕ) → P j → Q j) → (us : List Visit) → AllOf (IsMine nodes P) us → AllOf (IsMine nodes Q) us
  mine_weaker P Q f us h =
      all_weaker (IsMine nodes P) (IsMine nodes Q)
      (λ v m. (all_weaker P Q f _ m.0, all_weaker (λ x. P (nodes + x)) (λ x. Q (nodes + x)) (λ x p. f (nodes + x) p) _ m.1)) us h

  -- ---- ranges

  -- the visible binders are in range
  abbrev AreLowSeen : List ℕ → Type 0
  AreLowSeen vs = (x : ℕ) → is_visible vs x ≡ true → nodes + x < slots

  low_at : (x y : ℕ) (vs : List ℕ) (b : Bool) → (b ≡ true → x ≡ y) → nodes + x < slots → AreLowSeen vs → (b || is_visible vs y) ≡ true
      → nodes + y < slots
  low_at x y vs true same low seen h = subst (λ z. nodes + z < slots) (same refl) low
  low_at x y vs false same low seen h = seen y h

  low_more : (xs vs : List ℕ) → AllOf (λ x. nodes + x < slots) xs → AreLowSeen vs → AreLowSeen (xs ++ vs)
  low_more [] vs low seen = seen
  low_more (x ∷ xs) vs low seen = λ y h. low_at x y (xs ++ vs) (x == y) (eqb-true x y) low.0 (low_more xs vs low.1 seen) h

  low_behind : (f : ItemForm) (vs : List ℕ) → AllOf (IsMine nodes (λ j. j < slots)) (visits_of_form f) → AreLowSeen vs
      → AreLowSeen (visible_behind vs f)
  low_behind (type_of d) vs mine seen = seen
  low_behind (let_of q e) vs mine seen = low_more (bound_in q) vs mine.0.1 seen
  low_behind (let_rec_of f r) vs mine seen = low_more (f ∷ []) vs mine.0.1 seen

  -- the numbers that the visits of items name are in range
  pub items_in : (n : ℕ) (is : List ItemTree) (vs : List ℕ) → AreLowSeen vs → are_scoped vs is ≡ true → AreMine n is
      → AllOf (VisitIn nodes slots) (visits_of_items is)
  items_in n [] vs seen scoped mine = tt
  items_in n (i ∷ is) vs seen scoped mine =
      let us = visits_of_form i.form in
      let low : ℕ → Type 0 = λ j. j < slots in
      let both = and_parts (is_scoped_form vs i.form) (are_scoped (visible_behind vs i.form) is) scoped in
      let own = mine_weaker (IsOf slots owner n) low (λ j o. o.0) us mine.0 in
      let part = item_part nodes low none_known (λ x ps is_some. absurd (none-some ps is_some)) i.form in
      let inside = all_weaker (IsNamed nodes low none_known) (VisitIn nodes slots) (visit_in nodes slots) us
      (part.to vs (λ x h none. seen x h) both.0 own) in
      all_both (VisitIn nodes slots) (visits_of_item i) (visits_of_items is)
      (tt, all_both (VisitIn nodes slots) us (leave_item i ∷ []) inside (visit_in nodes slots (leave_item i) (part.own own), tt))
      (items_in (suc n) is (visible_behind vs i.form) (low_behind i.form vs own seen) both.1 mine.1)

  -- ---- owners

  -- the slot of a binder of a definition that isn't generalised
  abbrev IsPlain : List ℕ → ℕ → Type 0
  IsPlain ps x = (nodes + x < slots) × (is_slot_of nodes ps (nodes + x) ≡ true)

  plain_more : (y : ℕ) (ps : List ℕ) (x : ℕ) → IsPlain ps x → IsPlain (y ∷ ps) x
  plain_more y ps x h = (h.0, or_right (nodes + y == nodes + x) (is_slot_of nodes ps (nodes + x)) h.1)

  plain_first : (y : ℕ) (ps : List ℕ) → nodes + y < slots → IsPlain (y ∷ ps) y
  plain_first y ps low = (low, ap (λ b. b || is_slot_of nodes ps (nodes + y)) (eq-eqb (nodes + y) (nodes + y) refl))

  -- what is known between items
  pub record State (k : Known) (vs : List ℕ) : Type 0 where
    plain : AllOf (IsPlain k.plain) k.plain
    fixed : (x : ℕ) (ps : List ℕ) → before_in k.general x ≡ Some ps → AllOf (IsPlain k.plain) ps
    seen : (x : ℕ) → is_visible vs x ≡ true → before_in k.general x ≡ None → IsPlain k.plain x

  fixed_at : (k : Known) (vs : List ℕ) (y : ℕ) (ps : List ℕ) (b : Bool) → State k vs → (if b then Some k.plain else before_in k.general y) ≡ Some ps
      → AllOf (IsPlain k.plain) ps
  fixed_at k vs y ps true s is = subst (AllOf (IsPlain k.plain)) (same_Some k.plain ps is) s.plain
  fixed_at k vs y ps false s is = s.fixed y ps is

  seen_general : (k : Known) (vs : List ℕ) (y : ℕ) (b : Bool) → State k vs → (b || is_visible vs y) ≡ true
      → (if b then Some k.plain else before_in k.general y) ≡ None → IsPlain k.plain y
  seen_general k vs y true s h none = absurd (none-some k.plain (sym none))
  seen_general k vs y false s h none = s.seen y h none

  general_state : (k : Known) (vs : List ℕ) (x : ℕ) → State k vs → State (with_general k x) (x ∷ vs)
  general_state k vs x s = record {
    plain = s.plain;
    fixed = λ y ps is. fixed_at k vs y ps (x == y) s is;
    seen = λ y h none. seen_general k vs y (x == y) s h none;
  }

  seen_plain : (k : Known) (vs : List ℕ) (x y : ℕ) (b : Bool) → (b ≡ true → x ≡ y) → nodes + x < slots → State k vs → (b || is_visible vs y) ≡ true
      → before_in k.general y ≡ None → IsPlain (x ∷ k.plain) y
  seen_plain k vs x y true same low s h none = subst (IsPlain (x ∷ k.plain)) (same refl) (plain_first x k.plain low)
  seen_plain k vs x y false same low s h none = plain_more x k.plain y (s.seen y h none)

  plain_state : (k : Known) (vs : List ℕ) (x : ℕ) → nodes + x < slots → State k vs → State (with_plain k x) (x ∷ vs)
  plain_state k vs x low s =
      let more_of : (ps : List ℕ) → AllOf (IsPlain k.plain) ps → AllOf (IsPlain (x ∷ k.plain)) ps =
      λ ps h. all_weaker (IsPlain k.plain) (IsPlain (x ∷ k.plain)) (plain_more x k.plain) ps h in
      record {
        plain = (plain_first x k.plain low, more_of k.plain s.plain);
        fixed = λ y ps is. more_of ps (s.fixed y ps is);
        seen = λ y h none. seen_plain k vs x y (x == y) (eqb-true x y) low s h none;
      }

  name_state : (k : Known) (vs : List ℕ) (x : ℕ) (value : Bool) → nodes + x < slots → State k vs → State (with_name k x value) (x ∷ vs)
  name_state k vs x true low s = general_state k vs x s
  name_state k vs x false low s = plain_state k vs x low s

  state_behind : (f : ItemForm) (k : Known) (vs : List ℕ) → is_scoped_form vs f ≡ true → AllOf (IsMine nodes (λ j. j < slots)) (visits_of_form f)
      → State k vs
      → State (behind_form k f) (visible_behind vs f)
  state_behind (type_of d) k vs scoped mine s = absurd (false≢true scoped)
  state_behind (let_of (pattern p any) e) k vs scoped mine s = s
  state_behind (let_of (pattern p (bind x)) e) k vs scoped mine s = name_state k vs x (is_value e) mine.0.1.0 s
  state_behind (let_of (pattern p nothing) e) k vs scoped mine s = s
  state_behind (let_of (pattern p (tuple_of qs)) e) k vs scoped mine s = absurd (false≢true scoped)
  state_behind (let_of (pattern p (build_of c m qs)) e) k vs scoped mine s = absurd (false≢true scoped)
  state_behind (let_rec_of f r) k vs scoped mine s = general_state k vs f s

  -- a visit inside of an item leaves the item and what is known
  still : (n : ℕ) (k : Known) (v : Visit) (ws : List Visit) → Inner v → AreOwned nodes slots owner n k ws
      → AreOwned nodes slots owner (item_behind n v) (behind k v) ws
  still n k (enter_item i) ws h rest = absurd h
  still n k (leave_item i) ws h rest = absurd h
  still n k (enter e) ws h rest = rest
  still n k (leave e) ws h rest = rest
  still n k (leave_function r) ws h rest = rest
  still n k (declare q) ws h rest = rest
  still n k (show q) ws h rest = rest
  still n k (hide q) ws h rest = rest
  still n k (show_name x) ws h rest = rest
  still n k (hide_name x) ws h rest = rest

  inside_owned : (n : ℕ) (k : Known) (us ws : List Visit) → AllOf Inner us → AllOf (IsNamed nodes (IsOwn nodes slots owner n k) k) us
      → AreOwned nodes slots owner n k ws
      → AreOwned nodes slots owner n k (us ++ ws)
  inside_owned n k [] ws inner named rest = rest
  inside_owned n k (u ∷ us) ws inner named rest = (
    to_all (IsOwn nodes slots owner n k) (slots_at nodes k u) named.0,
    still n k u (us ++ ws) inner.0
        (inside_owned n k us ws inner.1 named.1 rest),
  )

  pub items_owned : (n : ℕ) (is : List ItemTree) (k : Known) (vs : List ℕ) → State k vs → are_scoped vs is ≡ true → AreMine n is
      → AreOwned nodes slots owner n k (visits_of_items is)
  items_owned n [] k vs s scoped mine = tt
  items_owned n (i ∷ is) k vs s scoped mine =
      let us = visits_of_form i.form in
      let own : ℕ → Type 0 = IsOwn nodes slots owner n k in
      let both = and_parts (is_scoped_form vs i.form) (are_scoped (visible_behind vs i.form) is) scoped in
      let low = mine_weaker (IsOf slots owner n) (λ j. j < slots) (λ j o. o.0) us mine.0 in
      let owns = mine_weaker (IsOf slots owner n) own (λ j o. (o.0, inl o.1)) us mine.0 in
      let as_own : (x : ℕ) → IsPlain k.plain x → own (nodes + x) = λ x h. (h.0, inr h.1) in
      let part = item_part nodes own k
      (λ x ps is_some. all_weaker (IsPlain k.plain) (λ p. own (nodes + p)) as_own ps (s.fixed x ps is_some)) i.form in
      let inside = part.to vs (λ x h none. as_own x (s.seen x h none)) both.0 owns in
      let rest = items_owned (suc n) is (behind_form k i.form) (visible_behind vs i.form) (state_behind i.form k vs both.0 low s) both.1 mine.1 in (
        All-nil own,
        subst (AreOwned nodes slots owner n k) (sym (append_assoc us (leave_item i ∷ []) (visits_of_items is)))
            (inside_owned n k us (leave_item i ∷ visits_of_items is) part.inner inside (to_all own (item_slots nodes i.form) (part.own owns), rest)),
      )

  pub no_state : State none_known []
  no_state = record { plain = tt; fixed = λ x ps is. absurd (none-some ps is); seen = λ x h none. absurd (false≢true h) }

  pub no_low : AreLowSeen []
  no_low x h = absurd (false≢true h)
