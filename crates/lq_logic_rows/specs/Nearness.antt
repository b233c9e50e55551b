-- Values near the sizes of constants below the limit of sums are no reason for an operation past 128 bits.
use Rattle.std.proofs.Common.{◌≡◌, ℕ, zero, suc, ◌<◌, ◌≤◌, ◌⊎◌, inl, inr, List, [], ◌∷◌, take, slice_get, Some, refl, sym, ap, ap₂, subst, ◌∙◌, arith, unsigned_abs, FitsSigned}
use Rattle.std.proofs.Math.IntN.{ℤ, pos, negsuc, ◌+ℤ◌, ◌-ℤ◌, ◌*ℤ◌}
use Rattle.std.proofs.Math.Nat.{eq-one_of_dvd-one, dvd-mul_left}
use Rattle.std.specs.Int.{w128}
use Rattle.std.specs.Int.Signed.{◌≤ℤ◌}
use Rattle.std.proofs.lemmas.Int.{ints}
use Rattle.std.proofs.lemmas.Bool.{cases_lt}
use Rattle.lq_base_numbers.specs.Rationals.NumberForms.{HasNoSumForm}
use Rattle.lq_base_numbers.specs.Rationals.Lcm.{IsLcm}
use Rattle.lq_base_numbers.specs.Rationals.LowestTerms.{IsLowest, lowest_terms_once}
use Rattle.lq_base_numbers.specs.Rationals.Rational.{ℚ, whole, ◌+ℚ◌, ◌*ℚ◌}
use Rattle.lq_base_numbers.specs.Rationals.Whole.{whole-sum, whole-product}
use Rattle.lq_base_numbers.specs.Fractions.Past.{IsPast, IsPastBy}
use Rattle.lq_base_numbers.specs.Fractions.Value.{value_of, numer_of, denom_of, lowest_of}
use Rattle.lq_base_numbers.specs.declared.fractions.frac.Frac.{Frac}
use Rattle.lq_base_numbers.specs.declared.fractions.past.NumOp.{NumOp}
use Rattle.lq_base_numbers.specs.declared.fractions.past.NumOp.TheVariants.{Add, Mul}
use Rattle.lq_base_numbers.specs.declared.fractions.past.NumberPast.{NumberPast}
use Rattle.lq_logic_rows.specs.Row.{Row, Valuation, sum_at}
use Rattle.lq_logic_rows.specs.Steps.{IsStep, IsFormed, member_product, member_sum, constant_sum}
use Rattle.lq_logic_rows.specs.Difference.{IsDifference, TermsBelow}
use Rattle.lq_logic_rows.specs.Near.{IsNear}
use Rattle.lq_logic_rows.specs.declared.limits.TheConstants.{SUM_LIMIT}

-- ---- fractions that are whole numbers

whole_lowest : (z : ℤ) → IsLowest (whole z) z 1
whole_lowest z = record { positive = omega arith; lowest = λ k p q. eq-one_of_dvd-one q; same = refl }

whole_parts : (f : Frac) (z : ℤ) → value_of f ≡ whole z → (numer_of f ≡ z) × (denom_of f ≡ 1)
whole_parts f z e = lowest_terms_once (value_of f) (numer_of f) z (denom_of f) 1 (lowest_of f) (subst (λ x. IsLowest x z 1) (sym e) (whole_lowest z))

one_one : IsLcm 1 1 1
one_one = (dvd-mul_left 1 1, dvd-mul_left 1 1, λ k p q. p)

times_one : (a : ℤ) → a *ℤ pos 1 ≡ a
times_one a = omega (arith, ints)

sum_fits : (a c : ℤ) → FitsSigned w128 a → FitsSigned w128 c → FitsSigned w128 (a +ℤ c) → HasNoSumForm a c 1 1 → ⊥
sum_fits a c f g h past =
    past 1 one_one (record {
      multiple = omega arith;
      first = subst (FitsSigned w128) (sym (times_one a)) f;
      second = subst (FitsSigned w128) (sym (times_one c)) g;
      total = subst (FitsSigned w128) (ap₂ (λ x y. x +ℤ y) (sym (times_one a)) (sym (times_one c))) h;
    })

no_sum_past : (f g : Frac) (a c : ℤ) → value_of f ≡ whole a → value_of g ≡ whole c → FitsSigned w128 a → FitsSigned w128 c → FitsSigned w128 (a +ℤ c)
    → IsPastBy Add f g → ⊥
no_sum_past f g a c ef eg fa fc fs past =
    let p = whole_parts f a ef in
    let q = whole_parts g c eg in
    sum_fits a c fa fc fs
    (subst (λ n. HasNoSumForm n c 1 1) p.0 (subst (λ n. HasNoSumForm (numer_of f) n 1 1) q.0
    (subst (λ d. HasNoSumForm (numer_of f) (numer_of g) d 1) p.1 (subst (λ d. HasNoSumForm (numer_of f) (numer_of g) (denom_of f) d) q.1 past))))

no_product_past : (f g : Frac) (a c : ℤ) → value_of f ≡ whole a → value_of g ≡ whole c → FitsSigned w128 (a *ℤ c) → IsPastBy Mul f g → ⊥
no_product_past f g a c ef eg fits past =
    past (a *ℤ c) 1 (record {
      positive = omega arith;
      lowest = λ k p q. eq-one_of_dvd-one q;
      same = sym (ap₂ (λ x y. x *ℚ y) ef eg ∙ whole-product a c);
      numer_fits = fits;
      denom_fits = omega arith;
    })

-- ---- sums of difference rows

-- the sum at whole values
abbrev sum_of : (ℕ → ℤ) → List (ℕ × ℤ) → ℤ
sum_of w [] = pos 0
sum_of w (part ∷ parts) = part.1 *ℤ w part.0 +ℤ sum_of w parts

sum_is : (terms : ℕ) (v : Valuation) (w : ℕ → ℤ) (parts : List (ℕ × ℤ)) → ((k : ℕ) → k < terms → v k ≡ whole (w k)) → TermsBelow terms parts
    → sum_at v parts ≡ whole (sum_of w parts)
sum_is terms v w [] at h = refl
sum_is terms v w (part ∷ parts) at h =
    ap₂ (λ x y. whole part.1 *ℚ x +ℚ y) (at part.0 h.0) (sum_is terms v w parts at h.1)
    ∙ ap (λ x. x +ℚ whole (sum_of w parts)) (whole-product part.1 (w part.0)) ∙ whole-sum (part.1 *ℤ w part.0) (sum_of w parts)

-- within n of 0
IsWithin : ℕ → ℤ → Type 0
IsWithin n z = (z ≤ℤ pos n) × (pos 0 ≤ℤ (z +ℤ pos n))

within : (n : ℕ) (z : ℤ) → unsigned_abs z ≤ n → IsWithin n z
unfolding IsWithin
within n (pos k) h = (omega (arith, ints), omega (arith, ints))
within n (negsuc k) h = (omega (arith, ints), omega (arith, ints))

within_zero : (n : ℕ) → IsWithin n (pos 0)
unfolding IsWithin
within_zero n = (omega (arith, ints), omega (arith, ints))

-- one member of a difference row
member : (n : ℕ) (c z : ℤ) → (c ≡ pos 1) ⊎ (c ≡ negsuc 0) → IsWithin n z → IsWithin n (c *ℤ z)
unfolding IsWithin
member n c z (inl e) h = subst (λ x. IsWithin n (x *ℤ z)) (sym e) (omega (arith, ints), omega (arith, ints))
member n c z (inr e) h = subst (λ x. IsWithin n (x *ℤ z)) (sym e) (omega (arith, ints), omega (arith, ints))

one_sum : (n : ℕ) (c z : ℤ) → (c ≡ pos 1) ⊎ (c ≡ negsuc 0) → IsWithin n z → IsWithin n (c *ℤ z +ℤ pos 0)
unfolding IsWithin
one_sum n c z (inl e) h = subst (λ x. IsWithin n (x *ℤ z +ℤ pos 0)) (sym e) (omega (arith, ints), omega (arith, ints))
one_sum n c z (inr e) h = subst (λ x. IsWithin n (x *ℤ z +ℤ pos 0)) (sym e) (omega (arith, ints), omega (arith, ints))

two_sum : (n : ℕ) (a b y z : ℤ) → ((a ≡ pos 1) × (b ≡ negsuc 0)) ⊎ ((a ≡ negsuc 0) × (b ≡ pos 1)) → IsWithin n (y -ℤ z) → IsWithin n (a *ℤ y +ℤ (b *ℤ z +ℤ pos 0))
unfolding IsWithin
two_sum n a b y z (inl e) h = subst (λ x. IsWithin n (x *ℤ y +ℤ (b *ℤ z +ℤ pos 0))) (sym e.0) (subst (λ x. IsWithin n (pos 1 *ℤ y +ℤ (x *ℤ z +ℤ pos 0))) (sym e.1) (omega (arith, ints), omega (arith, ints)))
two_sum n a b y z (inr e) h = subst (λ x. IsWithin n (x *ℤ y +ℤ (b *ℤ z +ℤ pos 0))) (sym e.0) (subst (λ x. IsWithin n (negsuc 0 *ℤ y +ℤ (x *ℤ z +ℤ pos 0))) (sym e.1) (omega (arith, ints), omega (arith, ints)))

unit_of : (a b : ℤ) → ((a ≡ pos 1) × (b ≡ negsuc 0)) ⊎ ((a ≡ negsuc 0) × (b ≡ pos 1)) → ((a ≡ pos 1) ⊎ (a ≡ negsuc 0)) × ((b ≡ pos 1) ⊎ (b ≡ negsuc 0))
unit_of a b (inl e) = (inl e.0, inr e.1)
unit_of a b (inr e) = (inr e.0, inl e.1)

-- the sum of the first members
front_within : (n terms : ℕ) (v : Valuation) (near : IsNear n terms v) (parts : List (ℕ × ℤ)) (k : ℕ) → IsDifference parts → TermsBelow terms parts
    → IsWithin n (sum_of near.at (take k parts))
front_within n terms v near parts zero d t = within_zero n
front_within n terms v near [] (suc k) d t = within_zero n
front_within n terms v near (x ∷ []) (suc zero) d t = one_sum n x.1 (near.at x.0) d (within n _ (near.value x.0 t.0))
front_within n terms v near (x ∷ []) (suc (suc k)) d t = one_sum n x.1 (near.at x.0) d (within n _ (near.value x.0 t.0))
front_within n terms v near (x ∷ y ∷ []) (suc zero) d t = one_sum n x.1 (near.at x.0) (unit_of x.1 y.1 d).0 (within n _ (near.value x.0 t.0))
front_within n terms v near (x ∷ y ∷ []) (suc (suc zero)) d t = two_sum n x.1 y.1 (near.at x.0) (near.at y.0) d (within n _ (near.difference x.0 y.0 t.0 t.1.0))
front_within n terms v near (x ∷ y ∷ []) (suc (suc (suc k))) d t = two_sum n x.1 y.1 (near.at x.0) (near.at y.0) d (within n _ (near.difference x.0 y.0 t.0 t.1.0))
front_within n terms v near (x ∷ y ∷ z ∷ parts) (suc k) d t = absurd d

all_within : (n terms : ℕ) (v : Valuation) (near : IsNear n terms v) (parts : List (ℕ × ℤ)) → IsDifference parts → TermsBelow terms parts → IsWithin n (sum_of near.at parts)
all_within n terms v near [] d t = within_zero n
all_within n terms v near (x ∷ []) d t = one_sum n x.1 (near.at x.0) d (within n _ (near.value x.0 t.0))
all_within n terms v near (x ∷ y ∷ []) d t = two_sum n x.1 y.1 (near.at x.0) (near.at y.0) d (within n _ (near.difference x.0 y.0 t.0 t.1.0))
all_within n terms v near (x ∷ y ∷ z ∷ parts) d t = absurd d

-- a member's coefficient and term
unit_at : (terms : ℕ) (parts : List (ℕ × ℤ)) (k term : ℕ) (c : ℤ) → IsDifference parts → TermsBelow terms parts → slice_get parts k ≡ Some (term, c)
    → ((c ≡ pos 1) ⊎ (c ≡ negsuc 0)) × (term < terms)
unit_at terms [] k term c d t e = cc
unit_at terms (x ∷ []) zero term c d t e = let p : x ≡ (term, c) = cc in subst (λ (y : ℕ × ℤ). ((y.1 ≡ pos 1) ⊎ (y.1 ≡ negsuc 0)) × (y.0 < terms)) p (d, t.0)
unit_at terms (x ∷ []) (suc k) term c d t e = cc
unit_at terms (x ∷ y ∷ []) zero term c d t e =
    let p : x ≡ (term, c) = cc in subst (λ (z : ℕ × ℤ). ((z.1 ≡ pos 1) ⊎ (z.1 ≡ negsuc 0)) × (z.0 < terms)) p ((unit_of x.1 y.1 d).0, t.0)
unit_at terms (x ∷ y ∷ []) (suc zero) term c d t e =
    let p : y ≡ (term, c) = cc in subst (λ (z : ℕ × ℤ). ((z.1 ≡ pos 1) ⊎ (z.1 ≡ negsuc 0)) × (z.0 < terms)) p ((unit_of x.1 y.1 d).1, t.1.0)
unit_at terms (x ∷ y ∷ []) (suc (suc k)) term c d t e = cc
unit_at terms (x ∷ y ∷ z ∷ parts) k term c d t e = absurd d

take_below : (terms : ℕ) (parts : List (ℕ × ℤ)) (k : ℕ) → TermsBelow terms parts → TermsBelow terms (take k parts)
take_below terms parts zero t = tt
take_below terms [] (suc k) t = tt
take_below terms (x ∷ parts) (suc k) t = (t.0, take_below terms parts k t.1)

fits_one : (n : ℕ) (z : ℤ) → n < SUM_LIMIT → IsWithin n z → FitsSigned w128 z
unfolding IsWithin
fits_one n z l h = omega (arith, ints)

fits_two : (n : ℕ) (y z : ℤ) → n < SUM_LIMIT → IsWithin n y → IsWithin n z → FitsSigned w128 (y +ℤ z)
unfolding IsWithin
fits_two n y z l h k = omega (arith, ints)

-- no operation by which a difference row is evaluated at near values is past 128 bits
step_fits : (n terms : ℕ) (v : Valuation) (row : Row) (op : NumOp) (l r : ℚ) → n < SUM_LIMIT → (near : IsNear n terms v) → IsDifference row.parts → TermsBelow terms row.parts
    → unsigned_abs row.constant ≤ n → IsStep v row op l r → (f g : Frac) → value_of f ≡ l → value_of g ≡ r → IsPastBy op f g → ⊥
step_fits n terms v row _ _ _ small near d t size (member_product k term c at) f g ef eg past =
    let u = unit_at terms row.parts k term c d t at in
    no_product_past f g c (near.at term) ef (eg ∙ near.whole_at term u.1) (fits_one n _ small (member n c (near.at term) u.0 (within n _ (near.value term u.1)))) past
step_fits n terms v row _ _ _ small near d t size (member_sum k term c at) f g ef eg past =
    let u = unit_at terms row.parts k term c d t at in
    let front = front_within n terms v near row.parts k d t in
    let one = member n c (near.at term) u.0 (within n _ (near.value term u.1)) in
    no_sum_past f g (sum_of near.at (take k row.parts)) (c *ℤ near.at term)
    (ef ∙ sum_is terms v near.at (take k row.parts) near.whole_at (take_below terms row.parts k t))
    (eg ∙ ap (λ x. whole c *ℚ x) (near.whole_at term u.1) ∙ whole-product c (near.at term))
    (fits_one n _ small front) (fits_one n _ small one) (fits_two n _ _ small front one) past
step_fits n terms v row _ _ _ small near d t size constant_sum f g ef eg past =
    let all = all_within n terms v near row.parts d t in
    let one = within n row.constant size in
    no_sum_past f g (sum_of near.at row.parts) row.constant (ef ∙ sum_is terms v near.at row.parts near.whole_at t) eg
    (fits_one n _ small all) (fits_one n _ small one) (fits_two n _ _ small all one) past

pub near_formed : (n terms : ℕ) (v : Valuation) (row : Row) → n < SUM_LIMIT → IsNear n terms v → IsDifference row.parts → TermsBelow terms row.parts
    → unsigned_abs row.constant ≤ n → IsFormed v row
near_formed n terms v row small near d t size e step past = step_fits n terms v row e.op (value_of e.left) (value_of e.right) small near d t size step e.left e.right refl refl past

-- so where one is, the sizes are large
pub large_by_step : (n terms : ℕ) (v : Valuation) (row : Row) (e : NumberPast) → IsNear n terms v → IsDifference row.parts → TermsBelow terms row.parts
    → unsigned_abs row.constant ≤ n → IsStep v row e.op (value_of e.left) (value_of e.right) → IsPast e → SUM_LIMIT ≤ n
large_by_step n terms v row e near d t size step past = by (cases_lt n SUM_LIMIT)
  where
    by : (n < SUM_LIMIT) ⊎ (SUM_LIMIT ≤ n) → SUM_LIMIT ≤ n
    by (inl l) = absurd (near_formed n terms v row l near d t size e step past)
    by (inr h) = h
