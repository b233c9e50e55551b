-- Scopes that grow, and what is in them.
use Rattle.std.proofs.Common.{◌≡◌, ℕ, zero, suc, ◌+◌, ◌-◌, ◌<◌, ◌≤◌, List, [], ◌∷◌, ◌++◌, length, slice_get, Option, Some, None, MatchOption, IfSome, reverse, Bool, true, false, not, ◌||◌, if◌then◌else◌, ◌⊎◌, inl, inr, refl, sym, ap, ap₂, subst, ◌∙◌, arith}
use Rattle.std.proofs.lemmas.Bool.{eqb-true, eq-eqb}
use Rattle.std.proofs.lemmas.List.{get_or_append_left, get_or_past, get_or_push, length-append, reverse-append}
use Rattle.std.proofs.lemmas.List.Elements.{All-filter, All-head, All-push, All-tail}
use Rattle.lq_refined_types.specs.Parts.Substitution.{is_in}
use Rattle.lq_logic_predicates.specs.Sum.{same_symbol}
use Rattle.lq_logic_predicates.specs.declared.symbol.Symbol.{Symbol}
use Rattle.lq_logic_predicates.specs.declared.symbol.Symbol.TheVariants.{Value, Bound, Position}
use Rattle.lq_refined_substitution.specs.Substitution.Scopes.{grown, left, list_at, rank, shown, without, AreBelow, AreBetween, AreWithin, IsWithin}
use Rattle.lq_refined_substitution.specs.declared.substitution.tables.Entry.{Entry}

abbrev Lists : Type 0
Lists = List (List Symbol)

pub same_symbol-is : (x y : Symbol) → same_symbol x y ≡ true → x ≡ y
same_symbol-is Value Value h = refl
same_symbol-is (Bound x) (Bound y) h = ap (λ n. Bound (record { 0 = n })) (eqb-true x.0 y.0 h)
same_symbol-is (Position i) (Position j) h = ap Position (eqb-true i j h)
same_symbol-is Value (Bound y) h = cc
same_symbol-is Value (Position j) h = cc
same_symbol-is (Bound x) Value h = cc
same_symbol-is (Bound x) (Position j) h = cc
same_symbol-is (Position i) Value h = cc
same_symbol-is (Position i) (Bound y) h = cc

same_symbol-refl : (x : Symbol) → same_symbol x x ≡ true
same_symbol-refl Value = refl
same_symbol-refl (Bound x) = eq-eqb x.0 x.0 refl
same_symbol-refl (Position i) = eq-eqb i i refl

-- ---- the table

pub length-grown : (all : Lists) (es : List Entry) → length (grown all es) ≡ length all + length es
length-grown all [] = omega arith
length-grown all (e ∷ es) =
    let new = shown e (list_at all e.parent) in
    let h = length-grown (all ++ new ∷ []) es in
    let k = length-append all (new ∷ []) in omega arith

pub grown-push : (all : Lists) (es : List Entry) (e : Entry) → grown all (es ++ e ∷ []) ≡ grown all es ++ shown e (list_at (grown all es) e.parent) ∷ []
grown-push all [] e = refl
grown-push all (x ∷ es) e = grown-push (all ++ shown x (list_at all x.parent) ∷ []) es e

-- what stands before a further scope stays
pub grown-keeps : (all : Lists) (es : List Entry) (i : ℕ) → i < length all → list_at (grown all es) i ≡ list_at all i
grown-keeps all [] i h = refl
grown-keeps all (e ∷ es) i h =
    let new = shown e (list_at all e.parent) in
    let k = length-append all (new ∷ []) in grown-keeps (all ++ new ∷ []) es i (omega arith) ∙ get_or_append_left all (new ∷ []) [] i h

-- a scope has what its parent has, but for what it hides, and its own symbol
pub grown-entry : (es : List Entry) (all : Lists) (k : ℕ) (e : Entry) → slice_get es k ≡ Some e → e.parent < length all + k
    → list_at (grown all es) (length all + k) ≡ shown e (list_at (grown all es) e.parent)
grown-entry [] all k e h b = absurd (cc)
grown-entry (x ∷ es) all zero e h b =
    let same : x ≡ e = cc in
    let new = shown x (list_at all x.parent) in
    let next = all ++ new ∷ [] in
    let n = length-append all (new ∷ []) in
    let p : x.parent < length all = subst (λ y. y.parent < length all) (sym same) (omega arith) in
    let i : length all + 0 ≡ length all = omega arith in
    let here : list_at (grown next es) (length all) ≡ new = grown-keeps next es (length all) (omega arith) ∙ get_or_push all new [] (length all) refl in
    let there : list_at (grown next es) x.parent ≡ list_at all x.parent =
    grown-keeps next es x.parent (omega arith) ∙ get_or_append_left all (new ∷ []) [] x.parent p
    in
    subst (λ y. list_at (grown next es) (length all + 0) ≡ shown y (list_at (grown next es) y.parent)) same
    (ap (list_at (grown next es)) i ∙ here ∙ ap (shown x) (sym there))
grown-entry (x ∷ es) all (suc k) e h b =
    let new = shown x (list_at all x.parent) in
    let next = all ++ new ∷ [] in
    let n : length next ≡ length all + 1 = length-append all (new ∷ []) in
    let i : length all + suc k ≡ length next + k = omega arith in
    ap (list_at (grown next es)) i ∙ grown-entry es next k e h (omega arith)

pub within : (es : List Entry) (k : ℕ) (x : Entry) → slice_get es k ≡ Some x → k < length es
within [] k x h = absurd (cc)
within (y ∷ es) zero x h = omega arith
within (y ∷ es) (suc k) x h = let r = within es k x h in omega arith

past : (es : List Entry) (k : ℕ) → slice_get es k ≡ None → length es ≤ k
past [] k h = omega arith
past (y ∷ es) zero h = absurd (cc)
past (y ∷ es) (suc k) h = let r = past es k h in omega arith

pub one_more : (es : List Entry) (e x : Entry) (k : ℕ) → slice_get (es ++ e ∷ []) k ≡ Some x → (slice_get es k ≡ Some x) ⊎ ((k ≡ length es) × (e ≡ x))
one_more [] e x zero h = inr (refl, cc)
one_more [] e x (suc k) h = absurd (cc)
one_more (y ∷ es) e x zero h = inl h
one_more (y ∷ es) e x (suc k) h = by (one_more es e x k h)
  where
    by : (slice_get es k ≡ Some x) ⊎ ((k ≡ length es) × (e ≡ x)) → (slice_get (y ∷ es) (suc k) ≡ Some x) ⊎ ((suc k ≡ suc (length es)) × (e ≡ x))
    by (inl s) = inl s
    by (inr p) = inr (ap suc p.0, p.1)

-- a scope is there as soon as it was added
pub early : (es : List Entry) (e : Entry) (i : ℕ) → i ≤ length es → list_at (grown ([] ∷ []) (es ++ e ∷ [])) i ≡ list_at (grown ([] ∷ []) es) i
early es e i h =
    let k = length-grown ([] ∷ []) es in
    let new = shown e (list_at (grown ([] ∷ []) es) e.parent) in
    ap (λ (l : Lists). list_at l i) (grown-push ([] ∷ []) es e) ∙ get_or_append_left (grown ([] ∷ []) es) (new ∷ []) [] i (omega arith)

-- a scope whose parent is there keeps the parents below
below-push : (es : List Entry) (e : Entry) → AreBelow es → e.parent ≤ length es → AreBelow (es ++ e ∷ [])
below-push es e below p k x s = by (one_more es e x k s)
  where
    by : (slice_get es k ≡ Some x) ⊎ ((k ≡ length es) × (e ≡ x)) → x.parent ≤ k
    by (inl g) = below k x g
    by (inr q) = subst (λ y. y.parent ≤ k) q.1 (subst (λ n. e.parent ≤ n) (sym q.0) p)

pub below-pushed : (b : Bool) (es fs : List Entry) (e : Entry) → fs ≡ (if b then es ++ e ∷ [] else es) → AreBelow es → e.parent ≤ length es → AreBelow fs
below-pushed true es fs e h below p = subst AreBelow (sym h) (below-push es e below p)
below-pushed false es fs e h below p = subst AreBelow (sym h) below

-- ---- ranks

left-within : (h : Option Symbol) (n : ℕ) (xs : List Symbol) → IsWithin n xs → IsWithin n (left h xs)
left-within None n xs all = all
left-within (Some h) n xs all = All-filter (λ y. not (same_symbol h y)) (λ y. rank y ≤ n) xs all

pub shown-within : (e : Entry) (xs : List Symbol) → IsWithin e.highest xs → rank e.symbol ≤ e.highest → IsWithin e.highest (shown e xs)
shown-within e xs all own = All-push (λ y. rank y ≤ e.highest) (left e.hidden xs) e.symbol (left-within e.hidden e.highest xs all) own

within-push : (es : List Entry) (e : Entry) → AreBelow es → AreWithin es → e.parent ≤ length es
    → IsWithin e.highest (shown e (list_at (grown ([] ∷ []) es) e.parent)) → AreWithin (es ++ e ∷ [])
within-push es e below all p new k x at = by (one_more es e x k at)
  where
    by : (slice_get es k ≡ Some x) ⊎ ((k ≡ length es) × (e ≡ x)) → IsWithin x.highest (shown x (list_at (grown ([] ∷ []) (es ++ e ∷ [])) x.parent))
    by (inl g) =
        let b = below k x g in
        let l = within es k x g in
        subst (λ (xs : List Symbol). IsWithin x.highest (shown x xs)) (sym (early es e x.parent (omega arith))) (all k x g)
    by (inr q) =
        subst (λ (y : Entry). IsWithin y.highest (shown y (list_at (grown ([] ∷ []) (es ++ e ∷ [])) y.parent))) q.1
        (subst (λ (xs : List Symbol). IsWithin e.highest (shown e xs)) (sym (early es e e.parent p)) new)

pub within-pushed : (b : Bool) (es fs : List Entry) (e : Entry) → fs ≡ (if b then es ++ e ∷ [] else es) → AreBelow es → AreWithin es → e.parent ≤ length es
    → IsWithin e.highest (shown e (list_at (grown ([] ∷ []) es) e.parent)) → AreWithin fs
within-pushed true es fs e h below all p new = subst AreWithin (sym h) (within-push es e below all p new)
within-pushed false es fs e h below all p new = subst AreWithin (sym h) all

-- ---- one scope by its number

pub number-of : (at : ℕ) → ¬ (at ≡ 0) → at ≡ 1 + (at - 1)
number-of zero z = absurd (z refl)
number-of (suc at) z = omega arith

module _ (es : List Entry) (at : ℕ) (z : ¬ (at ≡ 0)) (below : AreBelow es) where
  abbrev all : Lists
  all = grown ([] ∷ []) es

  pub entry-is : (r : Option Entry) → r ≡ slice_get es (at - 1) → MatchOption r (list_at all at ≡ []) (λ e. list_at all at ≡ shown e (list_at all e.parent))
  entry-is (Some e) is =
      let i : at ≡ 1 + (at - 1) = number-of at z in
      let b = below (at - 1) e (sym is) in ap (list_at all) i ∙ grown-entry es ([] ∷ []) (at - 1) e (sym is) (omega arith)
  entry-is None is =
      let i : at ≡ 1 + (at - 1) = number-of at z in
      let p = past es (at - 1) (sym is) in
      let k = length-grown ([] ∷ []) es in get_or_past all at [] (omega arith)

  pub entry-within : (r : Option Entry) → r ≡ slice_get es (at - 1) → AreWithin es → IfSome r (λ e. IsWithin e.highest (list_at all at))
  entry-within (Some e) is h =
      let i : at ≡ 1 + (at - 1) = number-of at z in
      let b = below (at - 1) e (sym is) in
      subst (IsWithin e.highest) (sym (ap (list_at all) i ∙ grown-entry es ([] ∷ []) (at - 1) e (sym is) (omega arith))) (h (at - 1) e (sym is))
  entry-within None is h = tt

  pub entry-earlier : (r : Option Entry) → r ≡ slice_get es (at - 1) → IfSome r (λ e. e.parent < at)
  entry-earlier (Some e) is = let i : at ≡ 1 + (at - 1) = number-of at z in let b = below (at - 1) e (sym is) in omega arith
  entry-earlier None is = tt

-- ---- what is in a scope

-- a symbol that ranks above all isn't there
pub above : (n : ℕ) (xs : List Symbol) (x : Symbol) → IsWithin n xs → n < rank x → is_in xs x ≡ false
above n [] x h less = refl
above n (y ∷ xs) x h less =
    ap₂ (λ a b. a || b) (differs (same_symbol y x) refl) (above n xs x (All-tail (λ z. rank z ≤ n) y xs h) less)
  where
    differs : (b : Bool) → same_symbol y x ≡ b → same_symbol y x ≡ false
    differs false e = e
    differs true e =
        let same : rank y ≡ rank x = ap rank (same_symbol-is y x e) in
        let low = All-head (λ z. rank z ≤ n) y xs h in absurd (omega arith)

-- nor does one that ranks below all
pub outside : (low high : ℕ) (xs : List Symbol) (x : Symbol) → AreBetween low high xs → (rank x < low) ⊎ (high < rank x) → is_in xs x ≡ false
outside low high [] x h o = refl
outside low high (y ∷ xs) x h o =
    ap₂ (λ a b. a || b) (differs (same_symbol y x) refl)
    (outside low high xs x (All-tail (λ z. (low ≤ rank z) × (rank z ≤ high)) y xs h) o)
  where
    apart : (low ≤ rank y) × (rank y ≤ high) → rank y ≡ rank x → (rank x < low) ⊎ (high < rank x) → ⊥
    apart b e (inl l) = let m = b.0 in omega (arith, e, l, m)
    apart b e (inr l) = let m = b.1 in omega (arith, e, l, m)

    differs : (b : Bool) → same_symbol y x ≡ b → same_symbol y x ≡ false
    differs false e = e
    differs true e = absurd (apart (All-head (λ z. (low ≤ rank z) × (rank z ≤ high)) y xs h) (ap rank (same_symbol-is y x e)) o)

pub in-last : (xs : List Symbol) (y x : Symbol) → is_in (xs ++ y ∷ []) x ≡ is_in xs x || same_symbol y x
in-last [] y x = last (same_symbol y x)
  where
    last : (b : Bool) → b || false ≡ b
    last true = refl
    last false = refl
in-last (z ∷ xs) y x = ap (λ b. same_symbol z x || b) (in-last xs y x) ∙ both (same_symbol z x) (is_in xs x) (same_symbol y x)
  where
    both : (a b c : Bool) → a || (b || c) ≡ (a || b) || c
    both true b c = refl
    both false b c = refl

either-false : (b : Bool) → b || false ≡ b
either-false true = refl
either-false false = refl

-- a symbol other than the own one is there where it is left
left-in : (e : Entry) (x : Symbol) → same_symbol e.symbol x ≡ false → (up : List Symbol) → is_in (shown e up) x ≡ is_in (left e.hidden up) x
left-in e x other up = in-last (left e.hidden up) e.symbol x ∙ (ap (λ b. is_in (left e.hidden up) x || b) other ∙ either-false (is_in (left e.hidden up) x))

without-self : (h x : Symbol) → same_symbol h x ≡ true → (up : List Symbol) → is_in (without h up) x ≡ false
without-self h x same [] = refl
without-self h x same (y ∷ up) = by (same_symbol h y) refl (without-self h x same up)
  where
    differs : same_symbol h y ≡ false → (b : Bool) → same_symbol y x ≡ b → same_symbol y x ≡ false
    differs e false d = d
    differs e true d =
        let hy : h ≡ y = same_symbol-is h x same ∙ sym (same_symbol-is y x d) in
        let is : same_symbol h y ≡ true = ap (λ z. same_symbol z y) hy ∙ same_symbol-refl y in absurd cc

    by : (b : Bool) → same_symbol h y ≡ b → is_in (without h up) x ≡ false → is_in (if not b then y ∷ without h up else without h up) x ≡ false
    by true e rest = rest
    by false e rest = ap₂ (λ a b. a || b) (differs e (same_symbol y x) refl) rest

without-other : (h x : Symbol) → same_symbol h x ≡ false → (up : List Symbol) → is_in (without h up) x ≡ is_in up x
without-other h x other [] = refl
without-other h x other (y ∷ up) = by (same_symbol h y) refl (without-other h x other up)
  where
    by : (b : Bool) → same_symbol h y ≡ b → is_in (without h up) x ≡ is_in up x
        → is_in (if not b then y ∷ without h up else without h up) x ≡ same_symbol y x || is_in up x
    by true e rest =
        let differs : same_symbol y x ≡ false = ap (λ z. same_symbol z x) (sym (same_symbol-is h y e)) ∙ other in
        rest ∙ ap (λ b. b || is_in up x) (sym differs)
    by false e rest = ap (λ b. same_symbol y x || b) rest

-- what is hidden isn't there, and all others are there as in the parent
pub hidden-in : (e : Entry) (h x : Symbol) → e.hidden ≡ Some h → same_symbol e.symbol x ≡ false → same_symbol h x ≡ true
    → (up : List Symbol) → is_in (shown e up) x ≡ false
hidden-in e h x is other same up = left-in e x other up ∙ (ap (λ o. is_in (left o up) x) is ∙ without-self h x same up)

pub other-in : (e : Entry) (h x : Symbol) → e.hidden ≡ Some h → same_symbol e.symbol x ≡ false → same_symbol h x ≡ false
    → (up : List Symbol) → is_in (shown e up) x ≡ is_in up x
other-in e h x is other differs up = left-in e x other up ∙ (ap (λ o. is_in (left o up) x) is ∙ without-other h x differs up)

pub none-in : (e : Entry) (x : Symbol) → e.hidden ≡ None → same_symbol e.symbol x ≡ false
    → (up : List Symbol) → is_in (shown e up) x ≡ is_in up x
none-in e x is other up = left-in e x other up ∙ ap (λ o. is_in (left o up) x) is

pub in-reverse : (xs : List Symbol) (x : Symbol) → is_in (reverse xs) x ≡ is_in xs x
in-reverse [] x = refl
in-reverse (y ∷ xs) x =
    ap (λ l. is_in l x) (reverse-append (y ∷ []) xs) ∙ in-last (reverse xs) y x ∙ ap (λ b. b || same_symbol y x) (in-reverse xs x)
    ∙ swapped (is_in xs x) (same_symbol y x)
  where
    swapped : (a b : Bool) → a || b ≡ b || a
    swapped true true = refl
    swapped true false = refl
    swapped false true = refl
    swapped false false = refl
