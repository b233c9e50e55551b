-- The rows of one comparison under two numberings of terms.
use Rattle.std.proofs.Common.{◌≡◌, ◌≢◌, inl, inr, ℕ, ℤ, suc, pos, negsuc, ◌*◌, ◌<◌, ◌≤◌, if◌then◌else◌, arith, refl, sym, ap, subst, ◌∙◌, true, List, [], ◌∷◌, Some, length, slice_get, unsigned_abs}
use Rattle.std.specs.Int.{◌∣◌}
use Rattle.std.proofs.Math.IntN.{◌+ℤ◌, ◌-ℤ◌, ◌*ℤ◌, *ℤ-zero}
use Rattle.std.proofs.lemmas.Bool.{cases_lt}
use Rattle.std.proofs.Math.Nat.{mul-le-mul_left, one-dvd}
use Rattle.std.proofs.lemmas.Int.{ints, unsigned_abs-mul}
use Rattle.std.proofs.lemmas.List.Elements.{All-head, All-tail}
use Rattle.std.proofs.lemmas.Nat.Gcd.{le_of_dvd}
use Rattle.std.proofs.lemmas.Option.{slice_get_cases}
use Rattle.lq_base_numbers.specs.Rationals.IntRing.{at, ◌⊗◌, ◌⊖◌, ring}
use Rattle.lq_logic_rows.specs.Difference.{TermsBelow}
use Rattle.lq_logic_rows.specs.Forms.{Parts, DividesAll, IsNormal, IsMultiple, times}
use Rattle.lq_logic_rows.specs.Row.{Row, AscendsFrom}
use Rattle.lq_logic_predicates.specs.Comparison.{Comparison, IsRowOf, entry, row_coefficient, row_constant}
use Rattle.lq_logic_predicates.specs.LinearForm.{coefficient, constant_of}
use Rattle.lq_logic_predicates.specs.Numbering.{index_of-slice_get, slice_get-has_term, slice_get-index_of}
use Rattle.lq_logic_predicates.specs.Sum.{Sum}
use Rattle.lq_logic_predicates.specs.Table.{all_differ, has_term, index_of}
use Rattle.lq_logic_predicates.proofs.RowParts.{entry-below, entry-here, parts_once, parts_within}
use Rattle.lq_prover_pivots.proofs.CramerLemmas.Places.{eqb_by}
use Rattle.lq_prover_pivots.specs.Work.Sizes.{largest_part, IsDivisor}
use Rattle.lq_prover_pivots.proofs.WorkLemmas.Normal.{divides_factor, normal_once}
use Rattle.lq_prover_pivots.proofs.WorkLemmas.Rows.{divisor_exists, form_ascends, form_below, times_divides}
use Rattle.lq_prover_pivots.proofs.WorkLemmas.Scaled.{some_size}
use Rattle.lq_solve_strongest.specs.Selections.Fewer.{IsAlike}
use Rattle.lq_solve_strongest.proofs.SelectionsLemmas.Entries.{AreSome, ascends_times, divides_at, divides_each, entry_above, entry_times, form_some, most_at, most_each, product_some, some_times, terms_below}

-- the rows of one comparison, or of an equation and the one with its sides exchanged
pub record IsMatched (T U : List Sum) (r s : Row) : Type 0 where
  pub left : Comparison
  pub right : Comparison
  pub row : IsRowOf T left r
  pub other : IsRowOf U right s
  pub alike : IsAlike left right

pub alike_back : (c d : Comparison) → IsAlike c d → IsAlike d c
alike_back c d (inl e) = inl (sym e)
alike_back c d (inr t) = inr (t.1, t.0, t.3, t.2)

pub swapped : {T U : List Sum} {r s : Row} → IsMatched T U r s → IsMatched U T s r
swapped m = record { left = m.right; right = m.left; row = m.other; other = m.row; alike = alike_back m.left m.right m.alike }

-- the same coefficients and constant but for their sign
pub record IsSigned (c d : Comparison) : Type 0 where
  pub sign : ℤ
  pub unit : unsigned_abs sign ≡ 1
  pub coefficients : (t : Sum) → row_coefficient c t ≡ sign *ℤ row_coefficient d t
  pub constant : unsigned_abs (row_constant c) ≡ unsigned_abs (row_constant d)

once_one : (x : ℤ) → x ≡ pos 1 *ℤ x
once_one x = ring (at x) (at (pos 1) ⊗ at x) (omega arith)

negated : (x y : ℤ) → x -ℤ y ≡ negsuc 0 *ℤ (y -ℤ x)
negated x y = ring (at x ⊖ at y) (at (negsuc 0) ⊗ (at y ⊖ at x)) (omega arith)

turned_size : (x y : ℤ) → unsigned_abs (x -ℤ y +ℤ pos 0) ≡ unsigned_abs (y -ℤ x +ℤ pos 0)
turned_size x y = omega (arith, ints)

pub signed : (c d : Comparison) → IsAlike c d → IsSigned c d
signed c d (inl e) = record {
  sign = pos 1;
  unit = refl;
  coefficients = λ t. ap (λ x. row_coefficient x t) e ∙ once_one (row_coefficient d t);
  constant = ap (λ x. unsigned_abs (row_constant x)) e;
}
signed c d (inr t) = record {
  sign = negsuc 0;
  unit = refl;
  coefficients = λ u.
      ap (λ x. row_coefficient x u) t.2 ∙ negated (coefficient t.0 u) (coefficient t.1 u) ∙ ap (λ x. negsuc 0 *ℤ row_coefficient x u) (sym t.3);
  constant =
      ap (λ x. unsigned_abs (row_constant x)) t.2 ∙ turned_size (constant_of t.0) (constant_of t.1) ∙ ap (λ x. unsigned_abs (row_constant x)) (sym t.3);
}

pub constants_match : {T U : List Sum} {r s : Row} → IsMatched T U r s → unsigned_abs r.constant ≡ unsigned_abs s.constant
constants_match m = ap unsigned_abs m.row.constant ∙ (signed m.left m.right m.alike).constant ∙ ap unsigned_abs (sym m.other.constant)

pub row_below : (T : List Sum) (c : Comparison) (r : Row) → IsRowOf T c r → TermsBelow (length T) r.parts
row_below T c r is = terms_below (length T) r.parts (parts_within (length T) 0 r.parts is.formed.ascending is.formed.nonzero is.within)

-- ---- integers

grouped : (a b x : ℤ) → a *ℤ b *ℤ x ≡ a *ℤ (b *ℤ x)
grouped a b x = ring (at a ⊗ at b ⊗ at x) (at a ⊗ (at b ⊗ at x)) (omega arith)

exchanged : (a b x : ℤ) → a *ℤ (b *ℤ x) ≡ b *ℤ (a *ℤ x)
exchanged a b x = ring (at a ⊗ (at b ⊗ at x)) (at b ⊗ (at a ⊗ at x)) (omega arith)

unit_size : (s x : ℤ) → unsigned_abs s ≡ 1 → unsigned_abs (s *ℤ x) ≡ unsigned_abs x
unit_size s x e =
    unsigned_abs-mul s x ∙ ap (λ n. n * unsigned_abs x) e ∙ (let k : 1 * unsigned_abs x ≡ unsigned_abs x = omega arith in k)

unit_some : (s : ℤ) → unsigned_abs s ≡ 1 → s ≢ pos 0
unit_some s e z = let k : unsigned_abs s ≡ 0 = ap unsigned_abs z in absurd (omega arith)

less_by : (a b x y : ℕ) → 0 < a → b ≤ a → a * x ≡ b * y → x ≤ y
less_by a b x y some l e = elim (cases_lt y x) [
  | inl m ↦
      let h : a * suc y ≤ a * x = mul-le-mul_left a m in
      let k : y * b ≤ y * a = mul-le-mul_left y l in
      absurd (omega arith)
  | inr m ↦ m
]

-- parts whose coefficients are all 0 are none
no_parts : (p : Parts) → AreSome p → ((q : ℕ) → unsigned_abs (entry p q) ≡ 0) → p ≡ []
no_parts [] s h = refl
no_parts (x ∷ p) s h =
    let e : unsigned_abs x.1 ≡ 0 = subst (λ z. unsigned_abs z ≡ 0) (entry-here x p) (h x.0) in
    absurd (All-head (λ (y : ℕ × ℤ). y.1 ≢ pos 0) x p s (omega (arith, ints)))

pub divisor_in : (p q : Parts) (g : ℕ) → (DividesAll g p → DividesAll g q) → (q ≡ [] → p ≡ []) → IsDivisor p g → (h : ℕ) × IsDivisor q h × (g ∣ h)
divisor_in [] q g all none is = let h = divisor_exists q in (h.0, h.1, subst (λ n. n ∣ h.0) (sym is) (one-dvd h.0))
divisor_in (x ∷ p) [] g all none is = absurd (let e = none refl in cc)
divisor_in (x ∷ p) (y ∷ q) g all none is = let h = divisor_exists (y ∷ q) in (h.0, h.1, h.1.greatest g (all is.divides))

-- ---- two numberings

module _ (T U : List Sum) (once : all_differ T ≡ true) where
  -- each coefficient's size is one of the other row's
  pub size_in : (r s : Row) → IsMatched T U r s → (k : ℕ) → (l : ℕ) × (unsigned_abs (entry r.parts k) ≡ unsigned_abs (entry s.parts l))
  size_in r s m k = elim (slice_get_cases T k).1 [
    | inl h ↦
        let t = h.0 in
        let is = signed m.left m.right m.alike in (
          index_of U t,
          ap (λ j. unsigned_abs (entry r.parts j)) (sym (index_of-slice_get T k t once h.2)) ∙ ap unsigned_abs (m.row.coefficients t ∙ is.coefficients t)
              ∙ unit_size is.sign (row_coefficient m.right t) is.unit ∙ ap unsigned_abs (sym (m.other.coefficients t)),
        )
    | inr h ↦ (length U, ap unsigned_abs (m.row.within k h.0 ∙ sym (m.other.within (length U) (omega arith))))
  ]

  pub divides_in : (r s : Row) → IsMatched T U r s → (d : ℕ) → DividesAll d s.parts → DividesAll d r.parts
  divides_in r s m d h =
      divides_each d 0 r.parts m.row.formed.ascending
      (λ k. let z = size_in r s m k in subst (λ n. d ∣ n) (sym z.1) (divides_at d s.parts z.0 h))

  pub none_in : (r s : Row) → IsMatched T U r s → s.parts ≡ [] → r.parts ≡ []
  none_in r s m e =
      no_parts r.parts m.row.formed.nonzero
      (λ k. let z = size_in r s m k in z.1 ∙ ap (λ (p : Parts). unsigned_abs (entry p z.0)) e)

  -- where the rows are multiples of forms
  crossed : (r s : Row) (m : IsMatched T U r s) (f g : Parts) (a b : ℤ) → r.parts ≡ times a f → s.parts ≡ times b g → (t : Sum)
      → a *ℤ entry f (index_of T t) ≡ (signed m.left m.right m.alike).sign *ℤ b *ℤ entry g (index_of U t)
  crossed r s m f g a b e h t =
      let is = signed m.left m.right m.alike in
      sym (entry_times a f (index_of T t)) ∙ ap (λ p. entry p (index_of T t)) (sym e) ∙ m.row.coefficients t ∙ is.coefficients t
      ∙ ap (λ z. is.sign *ℤ z) (sym (m.other.coefficients t) ∙ ap (λ p. entry p (index_of U t)) h ∙ entry_times b g (index_of U t))
      ∙ sym (grouped is.sign b (entry g (index_of U t)))

  -- the largest coefficient of the one's form is no larger
  pub form_most : (r s : Row) → IsMatched T U r s → (f g : Parts) → IsNormal f → IsMultiple f r.parts → IsMultiple g s.parts → largest_part f ≤ largest_part g
  form_most r s m f g normal p q =
      most_each (largest_part g) 0 f (form_ascends 0 p.factor f (subst (AscendsFrom 0) p.is m.row.formed.ascending))
      (λ k.
      let z = size_in r s m k in
      let sizes : unsigned_abs p.factor * unsigned_abs (entry f k) ≡ unsigned_abs q.factor * unsigned_abs (entry g z.0) =
      sym (unsigned_abs-mul p.factor (entry f k)) ∙ ap unsigned_abs (sym (entry_times p.factor f k) ∙ ap (λ x. entry x k) (sym p.is)) ∙ z.1
      ∙ ap unsigned_abs (ap (λ x. entry x z.0) q.is ∙ entry_times q.factor g z.0) ∙ unsigned_abs-mul q.factor (entry g z.0) in
      let l = less_by (unsigned_abs p.factor) (unsigned_abs q.factor) (unsigned_abs (entry f k)) (unsigned_abs (entry g z.0)) some less sizes in
      let n = most_at g z.0 in
      omega arith)
    where
      some : 0 < unsigned_abs p.factor
      some = some_size p.factor p.some

      divides : unsigned_abs q.factor ∣ unsigned_abs p.factor
      divides =
          divides_factor (unsigned_abs q.factor) p.factor f (some_size q.factor q.some) some normal
          (subst (DividesAll (unsigned_abs q.factor)) p.is
          (divides_in r s m (unsigned_abs q.factor) (subst (DividesAll (unsigned_abs q.factor)) (sym q.is) (times_divides q.factor g))))

      less : unsigned_abs q.factor ≤ unsigned_abs p.factor
      less = le_of_dvd some divides

  -- where the other row is of one term alone, the row has one at most
  at_one : (r s : Row) (m : IsMatched T U r s) (u : ℕ) (b : ℤ) → s.parts ≡ times b ((u, pos 1) ∷ []) → (k : ℕ) → entry r.parts k ≢ pos 0
      → (t : Sum) × (slice_get T k ≡ Some t) × (index_of U t ≡ u)
  at_one r s m u b e k some = elim (slice_get_cases T k).1 [
    | inl h ↦ (h.0, h.2, only h.0 h.2)
    | inr h ↦ absurd (some (m.row.within k h.0))
  ]
    where
      nothing : (t : Sum) → slice_get T k ≡ Some t → entry s.parts (index_of U t) ≡ pos 0 → entry r.parts k ≡ pos 0
      nothing t h z =
          let is = signed m.left m.right m.alike in
          ap (entry r.parts) (sym (index_of-slice_get T k t once h)) ∙ m.row.coefficients t ∙ is.coefficients t
          ∙ ap (λ x. is.sign *ℤ x) (sym (m.other.coefficients t) ∙ z) ∙ *ℤ-zero is.sign

      only : (t : Sum) → slice_get T k ≡ Some t → index_of U t ≡ u
      only t h =
          eqb_by u (index_of U t) (λ q d. sym d)
          (λ q d. absurd (some (nothing t h (ap (λ (p : Parts). entry p (index_of U t)) e ∙ ap (λ c. if c then b *ℤ pos 1 else pos 0) q))))

  pub form_long : ((t : Sum) → has_term T t ≡ true → has_term U t ≡ true) → (r s : Row) → IsMatched T U r s → (f : Parts) (u : ℕ) → 2 ≤ length f
      → IsMultiple f r.parts → IsMultiple ((u, pos 1) ∷ []) s.parts → ⊥
  form_long under r s m [] u l p q = absurd (omega arith)
  form_long under r s m (x ∷ []) u l p q = absurd (omega arith)
  form_long under r s m (x ∷ y ∷ f) u l p q =
      let some : AreSome (times p.factor (x ∷ y ∷ f)) = subst AreSome p.is m.row.formed.nonzero in
      let forms : AreSome (x ∷ y ∷ f) = form_some p.factor (x ∷ y ∷ f) some in
      let above : AscendsFrom 0 (x ∷ y ∷ f) = form_ascends 0 p.factor (x ∷ y ∷ f) (subst (AscendsFrom 0) p.is m.row.formed.ascending) in
      let first : x.1 ≢ pos 0 = All-head (λ (z : ℕ × ℤ). z.1 ≢ pos 0) x (y ∷ f) forms in
      let second : y.1 ≢ pos 0 = All-head (λ (z : ℕ × ℤ). z.1 ≢ pos 0) y f (All-tail (λ (z : ℕ × ℤ). z.1 ≢ pos 0) x (y ∷ f) forms) in
      let before : x.0 < y.0 = (let o = above.1.0 in omega arith) in
      let at_first : entry (x ∷ y ∷ f) x.0 ≡ x.1 = entry-here x (y ∷ f) in
      let at_second : entry (x ∷ y ∷ f) y.0 ≡ y.1 = entry-below x (y ∷ f) y.0 before ∙ entry-here y f in
      let g = at_one r s m u q.factor q.is x.0 (there x.0 x.1 first at_first) in
      let h = at_one r s m u q.factor q.is y.0 (there y.0 y.1 second at_second) in
      let one : Some g.0 ≡ Some h.0 = placed g.0 x.0 g.1 ∙ ap (slice_get U) (g.2 ∙ sym h.2) ∙ sym (placed h.0 y.0 h.1) in
      let same : x.0 ≡ y.0 =
      sym (index_of-slice_get T x.0 g.0 once g.1) ∙ index_of-slice_get T y.0 g.0 once (h.1 ∙ sym one) in
      absurd (omega arith)
    where
      there : (k : ℕ) (z : ℤ) → z ≢ pos 0 → entry (x ∷ y ∷ f) k ≡ z → entry r.parts k ≢ pos 0
      there k z some e n =
          product_some p.factor z p.some some
          (ap (λ w. p.factor *ℤ w) (sym e) ∙ sym (entry_times p.factor (x ∷ y ∷ f) k) ∙ ap (λ w. entry w k) (sym p.is) ∙ n)

      placed : (t : Sum) (k : ℕ) → slice_get T k ≡ Some t → Some t ≡ slice_get U (index_of U t)
      placed t k h = sym (slice_get-index_of U t (under t (slice_get-has_term T k t h)))

  -- rows whose other rows are multiples of one form are multiples of one
  pub form_once : (r s r' s' : Row) → IsMatched T U r s → IsMatched T U r' s' → (f f' g : Parts) → IsNormal f → IsNormal f' → IsMultiple f r.parts → IsMultiple f' r'.parts
      → IsMultiple g s.parts → IsMultiple g s'.parts → f ≡ f'
  form_once r s r' s' m m' f f' g normal normal' p p' q q' =
      normal_once (times x f) f f' normal normal' (record { factor = x; some = x_some; is = refl }) (record { factor = y; some = y_some; is = same })
    where
      u : ℤ
      u = (signed m.left m.right m.alike).sign *ℤ q.factor

      v : ℤ
      v = (signed m'.left m'.right m'.alike).sign *ℤ q'.factor

      x : ℤ
      x = v *ℤ p.factor

      y : ℤ
      y = u *ℤ p'.factor

      x_some : x ≢ pos 0
      x_some = product_some v p.factor (product_some (signed m'.left m'.right m'.alike).sign q'.factor (unit_some _ (signed m'.left m'.right m'.alike).unit) q'.some) p.some

      y_some : y ≢ pos 0
      y_some = product_some u p'.factor (product_some (signed m.left m.right m.alike).sign q.factor (unit_some _ (signed m.left m.right m.alike).unit) q.some) p'.some

      at_term : (t : Sum) → x *ℤ entry f (index_of T t) ≡ y *ℤ entry f' (index_of T t)
      at_term t =
          grouped v p.factor (entry f (index_of T t)) ∙ ap (λ z. v *ℤ z) (crossed r s m f g p.factor q.factor p.is q.is t)
          ∙ exchanged v u (entry g (index_of U t)) ∙ ap (λ z. u *ℤ z) (sym (crossed r' s' m' f' g p'.factor q'.factor p'.is q'.is t))
          ∙ sym (grouped u p'.factor (entry f' (index_of T t)))

      below : TermsBelow (length T) f
      below = form_below (length T) p.factor f (subst (TermsBelow (length T)) p.is (row_below T m.left r m.row))

      below' : TermsBelow (length T) f'
      below' = form_below (length T) p'.factor f' (subst (TermsBelow (length T)) p'.is (row_below T m'.left r' m'.row))

      ascends : AscendsFrom 0 f
      ascends = form_ascends 0 p.factor f (subst (AscendsFrom 0) p.is m.row.formed.ascending)

      ascends' : AscendsFrom 0 f'
      ascends' = form_ascends 0 p'.factor f' (subst (AscendsFrom 0) p'.is m'.row.formed.ascending)

      same_at : (k : ℕ) → entry (times x f) k ≡ entry (times y f') k
      same_at k = elim (slice_get_cases T k).1 [
        | inl h ↦
            entry_times x f k
            ∙ subst (λ j. x *ℤ entry f j ≡ y *ℤ entry f' j) (index_of-slice_get T k h.0 once h.2) (at_term h.0)
            ∙ sym (entry_times y f' k)
        | inr h ↦
            entry_times x f k ∙ ap (λ z. x *ℤ z) (entry_above (length T) k f below h.0) ∙ *ℤ-zero x ∙ sym (*ℤ-zero y)
            ∙ ap (λ z. y *ℤ z) (sym (entry_above (length T) k f' below' h.0)) ∙ sym (entry_times y f' k)
      ]

      same : times x f ≡ times y f'
      same =
          parts_once 0 (times x f) (times y f') (ascends_times 0 x f ascends) (ascends_times 0 y f' ascends')
          (some_times x f x_some (form_some p.factor f (subst AreSome p.is m.row.formed.nonzero)))
          (some_times y f' y_some (form_some p'.factor f' (subst AreSome p'.is m'.row.formed.nonzero)))
          same_at
