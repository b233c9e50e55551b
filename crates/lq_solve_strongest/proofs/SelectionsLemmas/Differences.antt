-- The other row of a difference row is one.
use Rattle.std.proofs.Common.{◌≡◌, ◌≢◌, ◌⊎◌, inl, inr, ℕ, ℤ, pos, negsuc, ◌*◌, ◌<◌, if◌then◌else◌, arith, refl, sym, ap, subst, ◌∙◌, true, List, [], ◌∷◌, Some, slice_get, unsigned_abs}
use Rattle.std.proofs.Math.IntN.{◌*ℤ◌, *ℤ-zero}
use Rattle.std.proofs.lemmas.Int.{ints, unsigned_abs-mul}
use Rattle.std.proofs.lemmas.List.Elements.{All-head, All-tail}
use Rattle.std.proofs.lemmas.Option.{slice_get_cases}
use Rattle.lq_logic_rows.specs.Difference.{IsDifference}
use Rattle.lq_logic_rows.specs.Forms.{Parts}
use Rattle.lq_logic_rows.specs.Row.{Row, AscendsFrom}
use Rattle.lq_logic_predicates.specs.ClosedImplication.{terms_in}
use Rattle.lq_logic_predicates.specs.Comparison.{entry}
use Rattle.lq_logic_predicates.specs.Numbering.{index_of-slice_get, slice_get-has_term, slice_get-index_of}
use Rattle.lq_logic_predicates.specs.Sum.{Sum}
use Rattle.lq_logic_predicates.specs.Table.{all_differ, has_term, index_of}
use Rattle.lq_logic_predicates.proofs.RowParts.{entry-below, entry-here}
use Rattle.lq_prover_pivots.proofs.CramerLemmas.Places.{eqb_by}
use Rattle.lq_solve_strongest.specs.Selections.Differences.{FewerAreDifferences}
use Rattle.lq_solve_strongest.proofs.SelectionsLemmas.Entries.{AreSome}
use Rattle.lq_solve_strongest.proofs.SelectionsLemmas.Fewer.{terms_differ}
use Rattle.lq_solve_strongest.proofs.SelectionsLemmas.Making.{row_exists}
use Rattle.lq_solve_strongest.proofs.SelectionsLemmas.Matched.{IsMatched, signed}

-- 1 or -1
abbrev IsUnit : ℤ → Type 0
IsUnit z = (z ≡ pos 1) ⊎ (z ≡ negsuc 0)

unit_of : (z : ℤ) → unsigned_abs z ≡ 1 → IsUnit z
unit_of (pos n) e = inl (ap pos e)
unit_of (negsuc n) e = inr (ap negsuc (let h : n ≡ 0 = omega arith in h))

size_of : (z : ℤ) → IsUnit z → unsigned_abs z ≡ 1
size_of z (inl e) = ap unsigned_abs e
size_of z (inr e) = ap unsigned_abs e

-- 1 and -1, either way round
abbrev AreOpposite : ℤ → ℤ → Type 0
AreOpposite y z = ((y ≡ pos 1) × (z ≡ negsuc 0)) ⊎ ((y ≡ negsuc 0) × (z ≡ pos 1))

opposite_back : (y z : ℤ) → AreOpposite y z → AreOpposite z y
opposite_back y z (inl h) = inr (h.1, h.0)
opposite_back y z (inr h) = inl (h.1, h.0)

product : (a b c d : ℤ) → a ≡ c → b ≡ d → a *ℤ b ≡ c *ℤ d
product a b c d e f = ap (λ x. x *ℤ b) e ∙ ap (λ x. c *ℤ x) f

opposite_times : (s y z : ℤ) → IsUnit s → AreOpposite y z → AreOpposite (s *ℤ y) (s *ℤ z)
opposite_times s y z (inl e) (inl h) = inl (product s y (pos 1) (pos 1) e h.0, product s z (pos 1) (negsuc 0) e h.1)
opposite_times s y z (inl e) (inr h) = inr (product s y (pos 1) (negsuc 0) e h.0, product s z (pos 1) (pos 1) e h.1)
opposite_times s y z (inr e) (inl h) = inr (product s y (negsuc 0) (pos 1) e h.0, product s z (negsuc 0) (negsuc 0) e h.1)
opposite_times s y z (inr e) (inr h) = inl (product s y (negsuc 0) (negsuc 0) e h.0, product s z (negsuc 0) (pos 1) e h.1)

-- ---- a number at which a difference row isn't 0

-- a part of a difference row at which it stands
data IsAt (s : Parts) (l : ℕ) (z : ℤ) : Type 0 where
  alone : (x : ℕ × ℤ) → s ≡ x ∷ [] → l ≡ x.0 → z ≡ x.1 → IsAt s l z
  first : (x y : ℕ × ℤ) → s ≡ x ∷ y ∷ [] → l ≡ x.0 → z ≡ x.1 → IsAt s l z
  second : (x y : ℕ × ℤ) → s ≡ x ∷ y ∷ [] → l ≡ y.0 → z ≡ y.1 → IsAt s l z

is_at : (s : Parts) (l : ℕ) → IsDifference s → entry s l ≢ pos 0 → IsAt s l (entry s l)
is_at [] l d n = absurd (n refl)
is_at (x ∷ []) l d n =
    eqb_by x.0 l (λ q e. IsAt.alone x refl (sym e) (ap (λ b. if b then x.1 else pos 0) q)) (λ q e. absurd (n (ap (λ b. if b then x.1 else pos 0) q)))
is_at (x ∷ y ∷ []) l d n =
    eqb_by x.0 l (λ q e. IsAt.first x y refl (sym e) (ap (λ b. if b then x.1 else entry (y ∷ []) l) q))
    (λ q e. eqb_by y.0 l (λ r f. IsAt.second x y refl (sym f) (ap (λ b. if b then x.1 else entry (y ∷ []) l) q ∙ ap (λ b. if b then y.1 else pos 0) r))
    (λ r f. absurd (n (ap (λ b. if b then x.1 else entry (y ∷ []) l) q ∙ ap (λ b. if b then y.1 else pos 0) r))))
is_at (x ∷ y ∷ z ∷ s) l d n = absurd d

unit_at : (s : Parts) (l : ℕ) (z : ℤ) → IsDifference s → IsAt s l z → IsUnit z
unit_at s l z d (IsAt.alone x e p v) = subst IsUnit (sym v) (subst IsDifference e d)
unit_at s l z d (IsAt.first x y e p v) = subst IsUnit (sym v) (one (subst IsDifference e d))
  where
    one : AreOpposite x.1 y.1 → IsUnit x.1
    one (inl h) = inl h.0
    one (inr h) = inr h.0
unit_at s l z d (IsAt.second x y e p v) = subst IsUnit (sym v) (other (subst IsDifference e d))
  where
    other : AreOpposite x.1 y.1 → IsUnit y.1
    other (inl h) = inr h.1
    other (inr h) = inl h.1

same_first : (s : Parts) (x y z w : ℕ × ℤ) → s ≡ x ∷ y ∷ [] → s ≡ z ∷ w ∷ [] → (x ≡ z) × (y ≡ w)
same_first s x y z w e f =
    let h : x ∷ y ∷ [] ≡ z ∷ w ∷ [] = sym e ∙ f in ((cc), (cc))

no_both : {A : Type 0} (s : Parts) (x y z : ℕ × ℤ) → s ≡ x ∷ [] → s ≡ y ∷ z ∷ [] → A
no_both s x y z e f = let h : x ∷ [] ≡ y ∷ z ∷ [] = sym e ∙ f in absurd (cc)

-- at two numbers it is 1 and -1
opposite_at : (s : Parts) (l m : ℕ) (y z : ℤ) → IsDifference s → l ≢ m → IsAt s l y → IsAt s m z → AreOpposite y z
opposite_at s l m y z d n (IsAt.alone a e p v) (IsAt.alone b f q w) =
    let h : a ∷ [] ≡ b ∷ [] = sym e ∙ f in
    let k : a ≡ b = cc in absurd (n (p ∙ ap (λ (c : ℕ × ℤ). c.0) k ∙ sym q))
opposite_at s l m y z d n (IsAt.alone a e p v) (IsAt.first b c f q w) = no_both s a b c e f
opposite_at s l m y z d n (IsAt.alone a e p v) (IsAt.second b c f q w) = no_both s a b c e f
opposite_at s l m y z d n (IsAt.first a b e p v) (IsAt.alone c f q w) = no_both s c a b f e
opposite_at s l m y z d n (IsAt.second a b e p v) (IsAt.alone c f q w) = no_both s c a b f e
opposite_at s l m y z d n (IsAt.first a b e p v) (IsAt.first a' b' f q w) =
    absurd (n (p ∙ ap (λ (c : ℕ × ℤ). c.0) (same_first s a b a' b' e f).0 ∙ sym q))
opposite_at s l m y z d n (IsAt.second a b e p v) (IsAt.second a' b' f q w) =
    absurd (n (p ∙ ap (λ (c : ℕ × ℤ). c.0) (same_first s a b a' b' e f).1 ∙ sym q))
opposite_at s l m y z d n (IsAt.first a b e p v) (IsAt.second a' b' f q w) =
    let k = same_first s a b a' b' e f in
    subst (λ u. AreOpposite u z) (sym v) (subst (AreOpposite a.1) (ap (λ (c : ℕ × ℤ). c.1) k.1 ∙ sym w) (subst IsDifference e d))
opposite_at s l m y z d n (IsAt.second a b e p v) (IsAt.first a' b' f q w) =
    let k = same_first s a b a' b' e f in
    subst (λ u. AreOpposite u z) (sym v)
    (subst (AreOpposite b.1) (ap (λ (c : ℕ × ℤ). c.1) k.0 ∙ sym w) (opposite_back a.1 b.1 (subst IsDifference e d)))

-- three of them can't be opposite to one another
not_three : (x y z : ℤ) → AreOpposite x y → AreOpposite x z → AreOpposite y z → ⊥
not_three x y z (inl h) (inl k) (inl l) = let e : negsuc 0 ≡ pos 1 = sym h.1 ∙ l.0 in absurd (omega (arith, ints))
not_three x y z (inl h) (inl k) (inr l) = let e : negsuc 0 ≡ pos 1 = sym k.1 ∙ l.1 in absurd (omega (arith, ints))
not_three x y z (inl h) (inr k) l = let e : negsuc 0 ≡ pos 1 = sym k.0 ∙ h.0 in absurd (omega (arith, ints))
not_three x y z (inr h) (inl k) l = let e : negsuc 0 ≡ pos 1 = sym h.0 ∙ k.0 in absurd (omega (arith, ints))
not_three x y z (inr h) (inr k) (inl l) = let e : negsuc 0 ≡ pos 1 = sym l.1 ∙ k.1 in absurd (omega (arith, ints))
not_three x y z (inr h) (inr k) (inr l) = let e : negsuc 0 ≡ pos 1 = sym l.0 ∙ h.1 in absurd (omega (arith, ints))

-- ---- two rows

module _ (T U : List Sum) (once : all_differ T ≡ true) (under : (t : Sum) → has_term T t ≡ true → has_term U t ≡ true) (r s : Row) (m : IsMatched T U r s)
    (difference : IsDifference s.parts) where
  -- where the term of this number stands in the other row
  record IsMoved (k : ℕ) : Type 0 where
    term : Sum
    number : ℕ
    here : slice_get T k ≡ Some term
    there : slice_get U number ≡ Some term
    is : entry r.parts k ≡ (signed m.left m.right m.alike).sign *ℤ entry s.parts number
    at : IsAt s.parts number (entry s.parts number)

  moved : (k : ℕ) → entry r.parts k ≢ pos 0 → IsMoved k
  moved k some = elim (slice_get_cases T k).1 [
    | inl h ↦
        let t = h.0 in
        let sign = signed m.left m.right m.alike in
        let is : entry r.parts k ≡ sign.sign *ℤ entry s.parts (index_of U t) =
        ap (entry r.parts) (sym (index_of-slice_get T k t once h.2)) ∙ m.row.coefficients t ∙ sign.coefficients t
        ∙ ap (λ z. sign.sign *ℤ z) (sym (m.other.coefficients t)) in
        record {
          term = t;
          number = index_of U t;
          here = h.2;
          there = slice_get-index_of U t (under t (slice_get-has_term T k t h.2));
          is = is;
          at = is_at s.parts (index_of U t) difference (λ z. some (is ∙ ap (λ w. sign.sign *ℤ w) z ∙ *ℤ-zero sign.sign));
        }
    | inr h ↦ absurd (some (m.row.within k h.0))
  ]

  sign_unit : IsUnit (signed m.left m.right m.alike).sign
  sign_unit = unit_of (signed m.left m.right m.alike).sign (signed m.left m.right m.alike).unit

  moved_apart : (j k : ℕ) → j < k → (p : IsMoved j) (q : IsMoved k) → p.number ≢ q.number
  moved_apart j k l p q e =
      let same : Some p.term ≡ Some q.term = sym p.there ∙ ap (slice_get U) e ∙ q.there in
      let one : j ≡ k = sym (index_of-slice_get T j p.term once p.here) ∙ index_of-slice_get T k p.term once (q.here ∙ sym same) in
      absurd (omega arith)

  -- two of its coefficients are opposite
  pair : (j k : ℕ) (y z : ℤ) → j < k → entry r.parts j ≡ y → entry r.parts k ≡ z → y ≢ pos 0 → z ≢ pos 0 → AreOpposite y z
  pair j k y z l e f n o =
      let p = moved j (λ h. n (sym e ∙ h)) in
      let q = moved k (λ h. o (sym f ∙ h)) in
      subst (λ u. AreOpposite u z) (sym p.is ∙ e)
      (subst (AreOpposite ((signed m.left m.right m.alike).sign *ℤ entry s.parts p.number)) (sym q.is ∙ f)
      (opposite_times (signed m.left m.right m.alike).sign (entry s.parts p.number) (entry s.parts q.number) sign_unit
      (opposite_at s.parts p.number q.number (entry s.parts p.number) (entry s.parts q.number) difference (moved_apart j k l p q) p.at q.at)))

  single : (k : ℕ) (z : ℤ) → entry r.parts k ≡ z → z ≢ pos 0 → IsUnit z
  single k z e n =
      let p = moved k (λ h. n (sym e ∙ h)) in
      let sign = signed m.left m.right m.alike in
      let unit = size_of (entry s.parts p.number) (unit_at s.parts p.number (entry s.parts p.number) difference p.at) in
      let size : unsigned_abs z ≡ 1 =
      ap unsigned_abs (sym e ∙ p.is) ∙ unsigned_abs-mul sign.sign (entry s.parts p.number) ∙ ap (λ n. n * unsigned_abs (entry s.parts p.number)) sign.unit
      ∙ ap (λ n. 1 * n) unit in
      unit_of z size

  parts_difference : (parts : Parts) → r.parts ≡ parts → AscendsFrom 0 parts → AreSome parts → IsDifference parts
  parts_difference [] e a some = tt
  parts_difference (x ∷ []) e a some =
      single x.0 x.1 (ap (λ p. entry p x.0) e ∙ entry-here x []) (All-head (λ (z : ℕ × ℤ). z.1 ≢ pos 0) x [] some)
  parts_difference (x ∷ y ∷ []) e a some =
      let l = a.1.0 in
      pair x.0 y.0 x.1 y.1 (omega arith) (ap (λ p. entry p x.0) e ∙ entry-here x (y ∷ []))
      (ap (λ p. entry p y.0) e ∙ entry-below x (y ∷ []) y.0 (omega arith) ∙ entry-here y [])
      (All-head (λ (z : ℕ × ℤ). z.1 ≢ pos 0) x (y ∷ []) some)
      (All-head (λ (z : ℕ × ℤ). z.1 ≢ pos 0) y [] (All-tail (λ (z : ℕ × ℤ). z.1 ≢ pos 0) x (y ∷ []) some))
  parts_difference (x ∷ y ∷ z ∷ parts) e a some =
      let l = a.1.0 in
      let o = a.1.1.0 in
      let first : entry r.parts x.0 ≡ x.1 = ap (λ p. entry p x.0) e ∙ entry-here x (y ∷ z ∷ parts) in
      let second : entry r.parts y.0 ≡ y.1 = ap (λ p. entry p y.0) e ∙ entry-below x (y ∷ z ∷ parts) y.0 (omega arith) ∙ entry-here y (z ∷ parts) in
      let third : entry r.parts z.0 ≡ z.1 =
      ap (λ p. entry p z.0) e ∙ entry-below x (y ∷ z ∷ parts) z.0 (omega arith) ∙ entry-below y (z ∷ parts) z.0 (omega arith) ∙ entry-here z parts in
      let some1 = All-tail (λ (z : ℕ × ℤ). z.1 ≢ pos 0) x (y ∷ z ∷ parts) some in
      let a1 = All-head (λ (z : ℕ × ℤ). z.1 ≢ pos 0) x (y ∷ z ∷ parts) some in
      let a2 = All-head (λ (z : ℕ × ℤ). z.1 ≢ pos 0) y (z ∷ parts) some1 in
      let a3 = All-head (λ (z : ℕ × ℤ). z.1 ≢ pos 0) z parts (All-tail (λ (z : ℕ × ℤ). z.1 ≢ pos 0) y (z ∷ parts) some1) in
      not_three x.1 y.1 z.1 (pair x.0 y.0 x.1 y.1 (omega arith) first second a1 a2) (pair x.0 z.0 x.1 z.1 (omega arith) first third a1 a3)
      (pair y.0 z.0 y.1 z.1 (omega arith) second third a2 a3)

pub fewer_are_differences : FewerAreDifferences
fewer_are_differences i j fewer differences c r there is =
    let d = fewer.literals c there in
    let s = row_exists j d.0 d.1 in
    parts_difference (terms_in i) (terms_in j) (terms_differ i) fewer.terms r s.0 (record { left = c; right = d.0; row = is; other = s.1; alike = d.2 })
    (differences d.0 s.0 d.1 s.1) r.parts refl is.formed.ascending is.formed.nonzero
