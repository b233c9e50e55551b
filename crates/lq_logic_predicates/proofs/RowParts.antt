-- The coefficients of a form, as the parts of a row.
use Rattle.std.proofs.Common.{◌≡◌, ◌≢◌, ℕ, suc, ℤ, pos, ◌<◌, ◌≤◌, ◌==◌, nat_lt, List, [], ◌∷◌, Bool, true, false, not, cond, filter, Some, unwrap_or, All, slice_index_or, refl, sym, ap, ap₂, subst, ◌∙◌, arith, if◌then◌else◌}
use Rattle.std.specs.Ordering.{nat_cmp, int_eq}
use Rattle.std.specs.List.{AllByRecursion}
use Rattle.std.specs.List.Sorted.{IsStrictlySortedBy}
use Rattle.std.specs.Map.{keys_of, lookup}
use Rattle.std.specs.BTreeMap.{BTreeMap, is_at, IsOrdered}
use Rattle.std.specs.declared.cmp.Ordering.TheVariants.{Less, Equal, Greater}
use Rattle.std.specs.declared.cmp.Ordering.{Ordering}
use Rattle.std.proofs.lemmas.Bool.{eqb-true, eq-eqb, ne_eqb}
use Rattle.std.proofs.lemmas.List.Elements.{filter_passes, All-head, All-tail}
use Rattle.std.proofs.lemmas.Bool.Decides.{nat_tests, Decides-int_eq}
use Rattle.lq_logic_rows.specs.Row.{Row, AscendsFrom, IsRow}
use Rattle.lq_logic_predicates.specs.Comparison.{entry}
use Rattle.lq_logic_predicates.specs.FormOf.{at}

from_less : (x y : ℕ) → nat_cmp x y ≡ Less → suc x ≤ y
from_less x y h = grind (arith, nat_tests)

above : (x : ℕ) (ys : List ℕ) → AllByRecursion (λ y. nat_cmp x y ≡ Less) ys → AllByRecursion (λ y. suc x ≤ y) ys
above x [] h = tt
above x (y ∷ ys) h = (from_less x y h.0, above x ys h.1)

ascends : (low : ℕ) (es : List (ℕ × ℤ)) → AllByRecursion (λ y. low ≤ y) (keys_of es) → IsStrictlySortedBy nat_cmp (keys_of es) → AscendsFrom low es
unfolding IsStrictlySortedBy
ascends low [] h s = tt
ascends low (e ∷ es) h s = (h.0, ascends (suc e.0) es (above e.0 (keys_of es) s.0) s.1)

all_from_zero : (ys : List ℕ) → AllByRecursion (λ y. 0 ≤ y) ys
all_from_zero [] = tt
all_from_zero (y ∷ ys) = (omega arith, all_from_zero ys)

pub ascends_from_map : (m : BTreeMap ℕ ℤ) → IsOrdered nat_cmp m → AscendsFrom 0 m.entries
ascends_from_map m h = ascends 0 m.entries (all_from_zero (keys_of m.entries)) h

weaken : (low high : ℕ) (es : List (ℕ × ℤ)) → low ≤ high → AscendsFrom high es → AscendsFrom low es
weaken low high [] w h = tt
weaken low high (e ∷ es) w h = let p = h.0 in (omega (arith, p, w), h.1)

pub ascends-filter : (p : ℕ × ℤ → Bool) (low : ℕ) (es : List (ℕ × ℤ)) → AscendsFrom low es → AscendsFrom low (filter p es)
ascends-filter p low [] h = tt
ascends-filter p low (e ∷ es) h = by (p e) (ascends-filter p (suc e.0) es h.1)
  where
    by : (b : Bool) → AscendsFrom (suc e.0) (filter p es) → AscendsFrom low (cond b (e ∷ filter p es) (filter p es))
    by true r = (h.0, r)
    by false r = let q = h.0 in weaken low (suc e.0) (filter p es) (omega (arith, q)) r

pub entry-below : (e : ℕ × ℤ) (es : List (ℕ × ℤ)) (q : ℕ) → e.0 < q → entry (e ∷ es) q ≡ entry es q
entry-below e es q h = ap (λ b. if b then e.1 else entry es q) (ne_eqb e.0 q (λ x. absurd (omega (arith, h, x))))

pub entry-here : (e : ℕ × ℤ) (es : List (ℕ × ℤ)) → entry (e ∷ es) e.0 ≡ e.1
entry-here e es = ap (λ b. if b then e.1 else entry es e.0) (eq-eqb e.0 e.0 refl)

pub entry-past : (low q : ℕ) (es : List (ℕ × ℤ)) → AscendsFrom low es → q < low → entry es q ≡ pos 0
entry-past low q [] h w = refl
entry-past low q (e ∷ es) h w =
    let p = h.0 in
    ap (λ b. if b then e.1 else entry es q) (ne_eqb e.0 q (λ x. absurd (omega (arith, p, w, x)))) ∙ entry-past (suc e.0) q es h.1 (omega (arith, p, w))

abbrev pub is_nonzero : ℕ × ℤ → Bool
is_nonzero e = not (int_eq e.1 (pos 0))

pub entry-filter : (low q : ℕ) (es : List (ℕ × ℤ)) → AscendsFrom low es → entry (filter is_nonzero es) q ≡ entry es q
entry-filter low q [] h = refl
entry-filter low q (e ∷ es) h = by (int_eq e.1 (pos 0)) refl (entry-filter (suc e.0) q es h.1)
  where
    same_key : (b : Bool) → (e.0 == q) ≡ b → e.1 ≡ pos 0 → entry es q ≡ (if b then e.1 else entry es q)
    same_key true k z = entry-past (suc e.0) q es h.1 (let i = eqb-true e.0 q k in omega (arith, i)) ∙ sym z
    same_key false k z = refl

    by : (b : Bool) → int_eq e.1 (pos 0) ≡ b → entry (filter is_nonzero es) q ≡ entry es q
        → entry (cond (not b) (e ∷ filter is_nonzero es) (filter is_nonzero es)) q ≡ (if e.0 == q then e.1 else entry es q)
    by true z r = r ∙ same_key (e.0 == q) refl ((Decides-int_eq e.1 (pos 0)).0 z)
    by false z r = ap (λ x. if e.0 == q then e.1 else x) r

is_at-key : (q k : ℕ) → is_at (nat_cmp q) k ≡ (k == q)
is_at-key q k = grind (arith, nat_tests)

lookup-entry : (q : ℕ) (es : List (ℕ × ℤ)) → unwrap_or (lookup (is_at (nat_cmp q)) es) (pos 0) ≡ entry es q
lookup-entry q [] = refl
lookup-entry q (e ∷ es) =
    ap (λ b. unwrap_or (cond b (Some e.1) (lookup (is_at (nat_cmp q)) es)) (pos 0)) (is_at-key q e.0) ∙ by (e.0 == q) (lookup-entry q es)
  where
    by : (b : Bool) → unwrap_or (lookup (is_at (nat_cmp q)) es) (pos 0) ≡ entry es q
        → unwrap_or (cond b (Some e.1) (lookup (is_at (nat_cmp q)) es)) (pos 0) ≡ (if b then e.1 else entry es q)
    by true r = refl
    by false r = r

pub entry-at : (m : BTreeMap ℕ ℤ) (q : ℕ) → at m q ≡ entry m.entries q
entry-at m q = lookup-entry q m.entries

pub nonzero-filter : (es : List (ℕ × ℤ)) → All (λ e. e.1 ≢ pos 0) (filter is_nonzero es)
nonzero-filter es k d w z =
    let h = filter_passes is_nonzero es k d w in
    let e : int_eq (slice_index_or (filter is_nonzero es) k d).1 (pos 0) ≡ true = (Decides-int_eq (slice_index_or (filter is_nonzero es) k d).1 (pos 0)).1 z in
    not_both (int_eq (slice_index_or (filter is_nonzero es) k d).1 (pos 0)) h e
  where
    not_both : (b : Bool) → not b ≡ true → b ≡ true → ⊥
    not_both true p q = cc
    not_both false p q = cc

pub row_parts : (es parts : List (ℕ × ℤ)) (row : Row) → AscendsFrom 0 es → parts ≡ filter is_nonzero es → row.parts ≡ parts → IsRow row
row_parts es parts row h e w = record {
  ascending = subst (AscendsFrom 0) (sym (w ∙ e)) (ascends-filter is_nonzero 0 es h);
  nonzero = subst (All (λ part. part.1 ≢ pos 0)) (sym (w ∙ e)) (nonzero-filter es);
}

-- the numbers of a row's terms are below n where nothing stands from n on
pub parts_within : (n low : ℕ) (es : List (ℕ × ℤ)) → AscendsFrom low es → All (λ e. e.1 ≢ pos 0) es → ((q : ℕ) → n ≤ q → entry es q ≡ pos 0) → AllByRecursion (λ e. e.0 < n) es
parts_within n low [] h z w = tt
parts_within n low (e ∷ es) h z w = (by (nat_lt e.0 n) refl, parts_within n (suc e.0) es h.1 (All-tail (λ e. e.1 ≢ pos 0) e es z) (λ q k. rest q k (nat_lt e.0 q) refl))
  where
    first : entry (e ∷ es) e.0 ≡ e.1
    first = ap (λ b. if b then e.1 else entry es e.0) (eq-eqb e.0 e.0 refl)

    by : (b : Bool) → nat_lt e.0 n ≡ b → e.0 < n
    by true k = grind (arith, nat_tests)
    by false k = let m : n ≤ e.0 = grind (arith, nat_tests) in absurd (All-head (λ e. e.1 ≢ pos 0) e es z (sym first ∙ w e.0 m))

    rest : (q : ℕ) → n ≤ q → (b : Bool) → nat_lt e.0 q ≡ b → entry es q ≡ pos 0
    rest q k true l =
        let m : e.0 < q = grind (arith, nat_tests) in
        sym (ap (λ b. if b then e.1 else entry es q) (ne_eqb e.0 q (λ x. absurd (omega (arith, m, x))))) ∙ w q k
    rest q k false l = let m : q < suc e.0 = grind (arith, nat_tests) in entry-past (suc e.0) q es h.1 m

-- pairs that ascend and aren't 0 are determined by what stands at each number
pub parts_once : (low : ℕ) (es fs : List (ℕ × ℤ)) → AscendsFrom low es → AscendsFrom low fs → All (λ e. e.1 ≢ pos 0) es → All (λ e. e.1 ≢ pos 0) fs
    → ((q : ℕ) → entry es q ≡ entry fs q) → es ≡ fs
parts_once low [] [] a b y z h = refl
parts_once low [] (f ∷ fs) a b y z h = absurd (All-head (λ e. e.1 ≢ pos 0) f fs z (sym (entry-here f fs) ∙ sym (h f.0)))
parts_once low (e ∷ es) [] a b y z h = absurd (All-head (λ e. e.1 ≢ pos 0) e es y (sym (entry-here e es) ∙ h e.0))
parts_once low (e ∷ es) (f ∷ fs) a b y z h = by (nat_cmp e.0 f.0) refl (parts_once (suc e.0) es fs)
  where
    by : (o : Ordering) → nat_cmp e.0 f.0 ≡ o
        → (AscendsFrom (suc e.0) es → AscendsFrom (suc e.0) fs → All (λ e. e.1 ≢ pos 0) es → All (λ e. e.1 ≢ pos 0) fs → ((q : ℕ) → entry es q ≡ entry fs q) → es ≡ fs)
        → (e ∷ es) ≡ (f ∷ fs)
    by Less o rest =
        let m : e.0 < f.0 = from_less e.0 f.0 o in
        absurd (All-head (λ e. e.1 ≢ pos 0) e es y (sym (entry-here e es) ∙ h e.0 ∙ entry-past f.0 e.0 (f ∷ fs) (omega arith, b.1) m))
    by Greater o rest =
        let m : f.0 < e.0 = grind (arith, nat_tests) in
        absurd (All-head (λ e. e.1 ≢ pos 0) f fs z (sym (entry-here f fs) ∙ sym (h f.0) ∙ entry-past e.0 f.0 (e ∷ es) (omega arith, a.1) m))
    by Equal o rest =
        let k : e.0 ≡ f.0 = grind (arith, nat_tests) in
        let v : e.1 ≡ f.1 = sym (entry-here e es) ∙ h e.0 ∙ ap (entry (f ∷ fs)) k ∙ entry-here f fs in
        let pair : e ≡ f = λ i. (k i, v i) in
        let tail : AscendsFrom (suc e.0) fs = subst (λ n. AscendsFrom (suc n) fs) (sym k) b.1 in
        ap₂ (λ x xs. x ∷ xs) pair
        (rest a.1 tail (All-tail (λ e. e.1 ≢ pos 0) e es y) (All-tail (λ e. e.1 ≢ pos 0) f fs z)
        (λ q. later q (nat_lt e.0 q) refl k tail))
      where
        later : (q : ℕ) (c : Bool) → nat_lt e.0 q ≡ c → e.0 ≡ f.0 → AscendsFrom (suc e.0) fs → entry es q ≡ entry fs q
        later q true l k tail = let m : e.0 < q = grind (arith, nat_tests) in sym (entry-below e es q m) ∙ h q ∙ entry-below f fs q (omega (arith, m, k))
        later q false l k tail =
            let m : q < suc e.0 = grind (arith, nat_tests) in entry-past (suc e.0) q es a.1 m ∙ sym (entry-past (suc e.0) q fs tail m)
