-- One class of two.
use Rattle.std.proofs.Common.{◌≡◌, ◌≢◌, ℕ, ◌<◌, ◌≤◌, ◌⊎◌, inl, inr, List, [], ◌∷◌, ◌++◌, Option, IsSome, All, length, set, refl, sym, ap, subst, ◌∙◌, arith, length-set, length-append}
use Rattle.std.proofs.lemmas.Bool.{cases_eq}
use Rattle.std.proofs.lemmas.List.{get_or_append_left, get_or_push, length_push}
use Rattle.lq_types_unify.specs.declared.arena.Equation.{Equation}
use Rattle.lq_types_unify.specs.Nodes.{Form}
use Rattle.lq_types_unify.specs.Classes.{up, root, IsDown, IsState, IsFound, Grows}
use Rattle.lq_types_unify.proofs.Roots.{at_root, root_up, root_self, root_fixed, ups_set, up_set_same, up_set_other, fixed_less}

pub record IsLink (ps : List ℕ) (low high : ℕ) : Type 0 where
  pub down : IsDown ps
  pub order : low < high
  pub inside : high < length ps
  pub low_root : up ps low ≡ low
  pub high_root : up ps high ≡ high

apart : (low high : ℕ) → low < high → low ≢ high
apart low high h e = omega arith

pub linked_down : (ps : List ℕ) (low high : ℕ) → IsLink ps low high → IsDown (set ps high low)
linked_down ps low high l = ups_set (λ i j. j ≤ i) ps high low l.inside (let o = l.order in omega arith) (λ i e. l.down i)

pub linked_up : (ps : List ℕ) (low high : ℕ) → IsLink ps low high → (i : ℕ) → root (set ps high low) i ≡ root (set ps high low) (up ps i)
linked_up ps low high l i = elim (cases_eq i high) [
  | inl e ↦ ap (root (set ps high low)) (e ∙ sym l.high_root ∙ ap (up ps) (sym e))
  | inr e ↦ root_up (set ps high low) (linked_down ps low high l) i ∙ ap (root (set ps high low)) (up_set_other ps high low i e)
]

pub linked_coarser : (ps : List ℕ) (low high : ℕ) → IsLink ps low high → (i : ℕ) → root (set ps high low) (root ps i) ≡ root (set ps high low) i
linked_coarser ps low high l i = sym (at_root (root (set ps high low)) ps (linked_up ps low high l) i)

pub linked_low : (ps : List ℕ) (low high : ℕ) → IsLink ps low high → root (set ps high low) low ≡ low
linked_low ps low high l = root_self (set ps high low) low (up_set_other ps high low low (apart low high l.order) ∙ l.low_root)

pub linked_high : (ps : List ℕ) (low high : ℕ) → IsLink ps low high → root (set ps high low) high ≡ low
linked_high ps low high l =
    root_up (set ps high low) (linked_down ps low high l) high ∙ ap (root (set ps high low)) (up_set_same ps high low l.inside) ∙ linked_low ps low high l

pub linked_self : (ps : List ℕ) (low high : ℕ) → IsLink ps low high → (i : ℕ) → up (set ps high low) i ≡ i → (up ps i ≡ i) × (i ≢ high)
linked_self ps low high l = ups_set (λ i j. j ≡ i → (up ps i ≡ i) × (i ≢ high)) ps high low l.inside
    (λ e. absurd (apart low high l.order e)) (λ i n e. (e, n))

pub linked_where : (ps : List ℕ) (low high : ℕ) → IsLink ps low high → (i : ℕ)
    → ((root (set ps high low) i ≡ root ps i) × (root ps i ≢ high)) ⊎ ((root (set ps high low) i ≡ low) × (root ps i ≡ high))
linked_where ps low high l i = elim (cases_eq (root ps i) high) [
  | inl e ↦ inr (sym (linked_coarser ps low high l i) ∙ ap (root (set ps high low)) e ∙ linked_high ps low high l, e)
  | inr e ↦ inl (sym (linked_coarser ps low high l i) ∙ root_self (set ps high low) (root ps i) (up_set_other ps high low (root ps i) e ∙ root_fixed ps l.down i), e)
]

pub linked_grows : (ps : List ℕ) (low high : ℕ) → IsLink ps low high → (before after added : List Equation) → after ≡ before ++ added → length added ≤ 1
    → Grows ps (set ps high low) before after
linked_grows ps low high l before after added e h = record {
  coarser = linked_coarser ps low high l;
  added = added;
  after_is = e;
  room = omega (arith, fixed_less ps high low l.inside l.high_root (apart low high l.order), ap length e, length-append before added);
}

-- what the new root keeps
pub record IsKept (forms : ℕ → Option Form) (n : ℕ) (shapes kept : List ℕ) (low high : ℕ) (before after : List Equation) : Type 0 where
  pub size : length kept ≡ n
  pub inside : (i : ℕ) → i < n → up kept i < n
  pub others : (i : ℕ) → i ≢ low → up kept i ≡ up shapes i
  pub here : (up kept low ≡ up shapes low) ⊎ (up kept low ≡ up shapes high)
  pub formed_low : IsSome (forms (up shapes low)) → IsSome (forms (up kept low))
  pub formed_high : IsSome (forms (up shapes high)) → IsSome (forms (up kept low))
  pub keyed_low : (key : ℕ → Option Form) → All (λ e. key e.left ≡ key e.right) after → IsSome (forms (up shapes low)) → key (up shapes low) ≡ key (up kept low)
  pub keyed_high : (key : ℕ → Option Form) → All (λ e. key e.left ≡ key e.right) after → IsSome (forms (up shapes high)) → key (up shapes high) ≡ key (up kept low)
  pub before_too : (key : ℕ → Option Form) → All (λ e. key e.left ≡ key e.right) after → All (λ e. key e.left ≡ key e.right) before

pub found_later : (forms : ℕ → Option Form) (n : ℕ) (old new : List ℕ) → ((i : ℕ) → root new (root old i) ≡ root new i) → (e : Equation) → IsFound forms n old e → IsFound forms n new e
found_later forms n old new h e f = record {
  left_in = f.left_in;
  right_in = f.right_in;
  left_made = f.left_made;
  right_made = f.right_made;
  same = sym (h e.left) ∙ ap (root new) f.same ∙ h e.right;
}

pub linked_state : (forms : ℕ → Option Form) (n : ℕ) (ps shapes kept : List ℕ) (low high : ℕ) (before after : List Equation) → IsLink ps low high
    → IsState forms n ps shapes before → IsKept forms n shapes kept low high before after → All (IsFound forms n (set ps high low)) after
    → IsState forms n (set ps high low) kept after
linked_state forms n ps shapes kept low high before after l s k pairs = record {
  parents_length = length-set ps high low ∙ s.parents_length;
  shapes_length = k.size;
  down = linked_down ps low high l;
  inside = k.inside;
  own = own;
  formed = formed;
  keyed = keyed;
  pairs = pairs;
}
  where
    new : List ℕ
    new = set ps high low

    -- the root of what a root of before keeps
    kept_root : (r : ℕ) → up ps r ≡ r → root (set ps high low) (up shapes r) ≡ root (set ps high low) r
    kept_root r e = sym (linked_coarser ps low high l (up shapes r)) ∙ ap (root (set ps high low)) (s.own r e)

    own : (i : ℕ) → up (set ps high low) i ≡ i → root (set ps high low) (up kept i) ≡ i
    own i e = elim (cases_eq i low) [
      | inl f ↦ elim k.here [
        | inl g ↦ ap (λ j. root (set ps high low) (up kept j)) f ∙ ap (root (set ps high low)) g ∙ kept_root low l.low_root ∙ linked_low ps low high l ∙ sym f
        | inr g ↦ ap (λ j. root (set ps high low) (up kept j)) f ∙ ap (root (set ps high low)) g ∙ kept_root high l.high_root ∙ linked_high ps low high l ∙ sym f
      ]
      | inr f ↦ ap (root (set ps high low)) (k.others i f) ∙ kept_root i (linked_self ps low high l i e).0 ∙ root_self (set ps high low) i e
    ]

    formed : (i : ℕ) → IsSome (forms i) → IsSome (forms (up kept (root (set ps high low) i)))
    formed i m = elim (linked_where ps low high l i) [
      | inl w ↦ subst (λ j. IsSome (forms (up kept j))) (sym w.0) (elim (cases_eq (root ps i) low) [
        | inl f ↦ subst (λ j. IsSome (forms (up kept j))) (sym f) (k.formed_low (subst (λ j. IsSome (forms (up shapes j))) f (s.formed i m)))
        | inr f ↦ subst (λ j. IsSome (forms j)) (sym (k.others (root ps i) f)) (s.formed i m)
      ])
      | inr w ↦ subst (λ j. IsSome (forms (up kept j))) (sym w.0) (k.formed_high (subst (λ j. IsSome (forms (up shapes j))) w.1 (s.formed i m)))
    ]

    keyed : (key : ℕ → Option Form) → All (λ e. key e.left ≡ key e.right) after → (i : ℕ) → IsSome (forms i) → key i ≡ key (up kept (root (set ps high low) i))
    keyed key a i m = s.keyed key (k.before_too key a) i m ∙ elim (linked_where ps low high l i) [
      | inl w ↦ elim (cases_eq (root ps i) low) [
        | inl f ↦ ap (λ j. key (up shapes j)) f ∙ k.keyed_low key a (subst (λ j. IsSome (forms (up shapes j))) f (s.formed i m)) ∙ ap (λ j. key (up kept j)) (sym f ∙ sym w.0)
        | inr f ↦ ap key (sym (k.others (root ps i) f)) ∙ ap (λ j. key (up kept j)) (sym w.0)
      ]
      | inr w ↦ ap (λ j. key (up shapes j)) w.1 ∙ k.keyed_high key a (subst (λ j. IsSome (forms (up shapes j))) w.1 (s.formed i m)) ∙ ap (λ j. key (up kept j)) (sym w.0)
    ]

-- ---- the three ways

pub All_push : {X : Type 0} (P : X → Type 0) (xs : List X) (x : X) → All P xs → P x → All P (xs ++ x ∷ [])
All_push P xs x a p k d h = elim (cases_eq k (length xs)) [
  | inl e ↦ subst P (sym (get_or_push xs x d k (sym e))) p
  | inr e ↦ let m : k < length xs = omega (arith, length_push xs x) in subst P (sym (get_or_append_left xs (x ∷ []) d k m)) (a k d m)
]

pub All_front : {X : Type 0} (P : X → Type 0) (xs ys : List X) → All P (xs ++ ys) → All P xs
All_front P xs ys a k d h = subst P (get_or_append_left xs ys d k h) (a k d (omega (arith, length-append xs ys)))

pub All_last : {X : Type 0} (P : X → Type 0) (xs : List X) (x : X) → All P (xs ++ x ∷ []) → P x
All_last P xs x a = subst P (get_or_push xs x x (length xs) refl) (a (length xs) x (omega (arith, length_push xs x)))

pub kept_both : (forms : ℕ → Option Form) (n : ℕ) (ps shapes : List ℕ) (low high : ℕ) (before : List Equation) (e : Equation) → IsState forms n ps shapes before
    → e.left ≡ up shapes low → e.right ≡ up shapes high → IsSome (forms (up shapes low)) → IsKept forms n shapes shapes low high before (before ++ e ∷ [])
kept_both forms n ps shapes low high before e s f g m = record {
  size = s.shapes_length;
  inside = s.inside;
  others = λ i o. refl;
  here = inl refl;
  formed_low = λ h. h;
  formed_high = λ h. m;
  keyed_low = λ key a h. refl;
  keyed_high = λ key a h. ap key (sym g) ∙ sym (All_last (λ e. key e.left ≡ key e.right) before e a) ∙ ap key f;
  before_too = λ key a. All_front (λ e. key e.left ≡ key e.right) before (e ∷ []) a;
}

pub kept_high : (forms : ℕ → Option Form) (n : ℕ) (ps shapes : List ℕ) (low high x : ℕ) (before : List Equation) → IsState forms n ps shapes before
    → low < n → high < n → x ≡ up shapes high → ¬ (IsSome (forms (up shapes low))) → IsSome (forms (up shapes high))
    → IsKept forms n shapes (set shapes low x) low high before before
kept_high forms n ps shapes low high x before s low_in high_in e open_it m = record {
  size = length-set shapes low x ∙ s.shapes_length;
  inside = ups_set (λ i j. i < n → j < n) shapes low x in_shapes (λ h. subst (λ j. j < n) (sym e) (s.inside high high_in)) (λ i o. s.inside i);
  others = λ i o. up_set_other shapes low x i o;
  here = inr (here ∙ e);
  formed_low = λ h. absurd (open_it h);
  formed_high = λ h. subst (λ j. IsSome (forms j)) (sym (here ∙ e)) m;
  keyed_low = λ key a h. absurd (open_it h);
  keyed_high = λ key a h. ap key (sym (here ∙ e));
  before_too = λ key a. a;
}
  where
    in_shapes : low < length shapes
    in_shapes = subst (λ j. low < j) (sym s.shapes_length) low_in

    here : up (set shapes low x) low ≡ x
    here = up_set_same shapes low x in_shapes

pub kept_low : (forms : ℕ → Option Form) (n : ℕ) (ps shapes : List ℕ) (low high : ℕ) (before : List Equation) → IsState forms n ps shapes before
    → ¬ (IsSome (forms (up shapes high))) → IsKept forms n shapes shapes low high before before
kept_low forms n ps shapes low high before s open_it = record {
  size = s.shapes_length;
  inside = s.inside;
  others = λ i o. refl;
  here = inl refl;
  formed_low = λ h. h;
  formed_high = λ h. absurd (open_it h);
  keyed_low = λ key a h. refl;
  keyed_high = λ key a h. absurd (open_it h);
  before_too = λ key a. a;
}

pub found_here : (forms : ℕ → Option Form) (n : ℕ) (ps shapes : List ℕ) (low high : ℕ) (before : List Equation) (e : Equation) → IsLink ps low high → IsState forms n ps shapes before
    → low < n → high < n → e.left ≡ up shapes low → e.right ≡ up shapes high → IsSome (forms (up shapes low)) → IsSome (forms (up shapes high))
    → IsFound forms n (set ps high low) e
found_here forms n ps shapes low high before e l s low_in high_in f g m o = record {
  left_in = subst (λ j. j < n) (sym f) (s.inside low low_in);
  right_in = subst (λ j. j < n) (sym g) (s.inside high high_in);
  left_made = subst (λ j. IsSome (forms j)) (sym f) m;
  right_made = subst (λ j. IsSome (forms j)) (sym g) o;
  same = ap new f ∙ at low l.low_root ∙ linked_low ps low high l ∙ sym (linked_high ps low high l) ∙ sym (at high l.high_root) ∙ ap new (sym g);
}
  where
    new : ℕ → ℕ
    new = root (set ps high low)

    at : (r : ℕ) → up ps r ≡ r → root (set ps high low) (up shapes r) ≡ root (set ps high low) r
    at r e = sym (linked_coarser ps low high l (up shapes r)) ∙ ap (root (set ps high low)) (s.own r e)

pub pairs_later : (forms : ℕ → Option Form) (n : ℕ) (ps : List ℕ) (low high : ℕ) (before : List Equation) → IsLink ps low high → All (IsFound forms n ps) before → All (IsFound forms n (set ps high low)) before
pairs_later forms n ps low high before l a k d h = found_later forms n ps (set ps high low) (linked_coarser ps low high l) _ (a k d h)

pub moved : (forms : ℕ → Option Form) (n : ℕ) (ps s t : List ℕ) (f g : List Equation) → s ≡ t → f ≡ g → IsState forms n ps t g → IsState forms n ps s f
moved forms n ps s t f g e h i = subst (λ x. IsState forms n ps x f) (sym e) (subst (λ x. IsState forms n ps t x) (sym h) i)
