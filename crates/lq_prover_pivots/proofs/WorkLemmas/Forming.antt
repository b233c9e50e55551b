-- What is done with rows and with forms needs small numbers.
use Rattle.std.proofs.Common.{◌≡◌, ℕ, ℤ, pos, ◌*◌, ◌<◌, ◌≤◌, ◌⊎◌, inl, inr, arith, refl, sym, ap, subst, ◌∙◌, List, [], ◌∷◌, unsigned_abs}
use Rattle.std.proofs.Math.IntN.{◌*ℤ◌, neg_ℤ}
use Rattle.std.proofs.lemmas.Int.{ints}
use Rattle.lq_base_numbers.specs.Rationals.Rational.{ℚ, whole, ◌*ℚ◌, neg_ℚ}
use Rattle.lq_base_numbers.specs.Rationals.RationalQuotient.{◌/ℚ◌, /ℚ_is}
use Rattle.lq_base_numbers.specs.Rationals.Solver.{var, con, ◌⊗◌, solve}
use Rattle.lq_base_numbers.specs.Rationals.Whole.{whole_once}
use Rattle.lq_base_numbers.specs.declared.fractions.past.NumOp.{NumOp}
use Rattle.lq_logic_rows.specs.Row.{Row, Valuation}
use Rattle.lq_prover_pivots.specs.Pivots.Rows.{Variables, size, form}
use Rattle.lq_prover_pivots.specs.Pivots.Configurations.{Configuration, Free}
use Rattle.lq_prover_pivots.specs.Cramer.Sizes.{WithinWhole}
use Rattle.lq_prover_pivots.proofs.CramerLemmas.Sizes.{mul_at_most, within_same, within_neg}
use Rattle.lq_prover_pivots.specs.Work.Needs.{Needs}
use Rattle.lq_prover_pivots.specs.Work.Work.{entry_of, IsReading, IsEntry, IsOneOrEntry, IsSumming, IsForming}
use Rattle.lq_prover_pivots.proofs.WorkLemmas.Scene.{Listed, Scene, Products, products}
use Rattle.lq_prover_pivots.proofs.WorkLemmas.Over.{lowest_by, lowest_whole, within_whole, size_product, apart_product}
use Rattle.lq_prover_pivots.proofs.WorkLemmas.Summing.{Sums, member_at, product_needs, member_needs}

abbrev pub products_in : (vs : Variables) (rows : List Row) (most : ℕ) → (s : Listed vs rows most) → Products vs.terms s.coefficient s.entry s.constant s.divisor most
products_in vs rows most s = products vs.terms s.coefficient s.entry s.constant s.divisor most s.numbers

abbrev pub products_of : (vs : Variables) (rows : List Row) (c : Configuration) (most : ℕ) → (s : Scene vs rows c most) → Products vs.terms s.coefficient s.entry s.constant s.divisor most
products_of vs rows c most s = products_in vs rows most s.listed

pub positive_apart : (g : ℕ) → 0 < g → ¬ (pos g ≡ pos 0)
positive_apart g l e = absurd (omega (arith, ints))

pub whole_apart : (g : ℕ) → 0 < g → ¬ (whole (pos g) ≡ whole (pos 0))
whole_apart g l e = positive_apart g l (whole_once (pos g) (pos 0) e)

-- ---- rows
pub reading_is_small : (vs : Variables) (rows : List Row) (most : ℕ) → Listed vs rows most → (op : NumOp) (x y : ℚ)
    → IsReading rows op x y → Needs most most op x y
reading_is_small vs rows most s _ _ _ (IsReading.negated_constant row there) =
    let p = products_in vs rows most s in
    let one = s.numbers.divisor in
    let divisor = p.divisor in
    let size = s.constants row there in
    let constant = p.constant in
    lowest_whole most most (neg_ℚ (whole row.constant)) (omega arith) (within_neg most (whole row.constant) (within_whole most row.constant (omega arith)))
reading_is_small vs rows most s _ _ _ (IsReading.negated_coefficient row k term z there at) =
    let p = products_in vs rows most s in
    let one = s.numbers.divisor in
    let divisor = p.divisor in
    let parts = s.rows_are row there in
    let m = member_at vs.terms (s.coefficient * s.divisor) row.parts k term z parts.below parts.within at in
    let l = m.1 in
    let h = p.part in
    lowest_whole most most (neg_ℚ (whole z)) (omega arith) (within_neg most (whole z) (within_whole most z (omega arith)))
reading_is_small vs rows most s _ _ _ (IsReading.bound row g z there is either) =
    let p = products_in vs rows most s in
    let d = s.divisors row g there is in
    let l = d.1 in
    let divisor = p.divisor in
    let size = s.constants row there in
    let constant = p.constant in
    lowest_by most most (whole z /ℚ whole (pos g)) (pos g) (positive_apart g d.0) (omega arith)
    (within_same most (whole z /ℚ whole (pos g) *ℚ whole (pos g)) (whole z) (/ℚ_is (whole z) (whole (pos g)) (whole_apart g d.0))
    (within_whole most z (sized either)))
  where
    sized : (z ≡ row.constant) ⊎ (z ≡ neg_ℤ row.constant) → unsigned_abs z ≤ most
    sized (inl e) = let p = products_in vs rows most s in let size = s.constants row there in let constant = p.constant in subst (λ t. unsigned_abs t ≤ most) (sym e) (omega arith)
    sized (inr e) =
        let p = products_in vs rows most s in
        let size = s.constants row there in
        let constant = p.constant in
        let same : unsigned_abs (neg_ℤ row.constant) ≤ unsigned_abs row.constant = omega (arith, ints) in
        subst (λ t. unsigned_abs t ≤ most) (sym e) (omega arith)

-- ---- entries
pub entry_within : (vs : Variables) (rows : List Row) (c : Configuration) (most : ℕ) (s : Scene vs rows c most) (x : ℚ) → IsEntry vs c x
    → WithinWhole s.entry (x *ℚ whole s.denominator)
entry_within vs rows c most s x e =
    within_same s.entry (x *ℚ whole s.denominator) (entry_of c e.variable e.free *ℚ whole s.denominator) (ap (λ t. t *ℚ whole s.denominator) e.is)
    (s.entries e.variable e.free e.inside e.is_free)

pub one_or_entry_within : (vs : Variables) (rows : List Row) (c : Configuration) (most : ℕ) (s : Scene vs rows c most) (x : ℚ) → IsOneOrEntry vs c x
    → WithinWhole s.entry (x *ℚ whole s.denominator)
one_or_entry_within vs rows c most s x (inl e) =
    within_same s.entry (x *ℚ whole s.denominator) (whole s.denominator)
    (ap (λ t. t *ℚ whole s.denominator) e ∙ solve (whole s.denominator ∷ []) (con (pos 1) ⊗ var 0) (var 0) refl)
    (within_whole s.entry s.denominator s.within)
one_or_entry_within vs rows c most s x (inr e) = entry_within vs rows c most s x e

-- ---- forms
summing_is_small : (v : Valuation) (vs : Variables) (k : ℕ) (q : ℤ) (a b n numer denom : ℕ) → Sums v q a b n numer denom (form vs k)
    → (op : NumOp) (x y : ℚ) → IsSumming v vs k op x y → Needs numer denom op x y
summing_is_small v vs k q a b n numer denom s _ _ _ (IsSumming.product i t z at) = product_needs v q a b n numer denom (form vs k) i t z s at
summing_is_small v vs k q a b n numer denom s _ _ _ (IsSumming.sum i t z at) = member_needs v q a b n numer denom (form vs k) i t z s at

entry_sums : (vs : Variables) (rows : List Row) (c : Configuration) (most : ℕ) (s : Scene vs rows c most) (k j : ℕ) → k < size vs → Free vs c j
    → Sums (λ t. entry_of c t j) s.denominator s.coefficient s.entry vs.terms (most * most) most (form vs k)
entry_sums vs rows c most s k j l free =
    let p = products_of vs rows c most s in
    let within = s.within in
    let entry = p.entry in
    let terms = s.terms_in in
    record {
      values = λ t o. s.entries t j (omega arith) free;
      apart = s.some;
      small = omega arith;
      parts_are = s.forms k l;
      limit =
          let h : vs.terms * s.coefficient * s.entry ≤ most * most = mul_at_most (vs.terms * s.coefficient) s.entry most most p.form p.entry in
          omega arith;
    }

pub denominator_apart : (vs : Variables) (rows : List Row) (c : Configuration) (most : ℕ) (s : Scene vs rows c most) → ¬ (s.denominator *ℤ pos s.divisor ≡ pos 0)
denominator_apart vs rows c most s =
    let one = s.numbers.divisor in
    apart_product s.denominator (pos s.divisor) s.some (positive_apart s.divisor (omega arith))

pub denominator_size : (vs : Variables) (rows : List Row) (c : Configuration) (most : ℕ) (s : Scene vs rows c most) → unsigned_abs (s.denominator *ℤ pos s.divisor) ≤ most
denominator_size vs rows c most s =
    let p = products_of vs rows c most s in
    let h = size_product s.entry s.divisor s.denominator (pos s.divisor) s.within (omega arith) in
    let l = p.entry_divisor in
    omega arith

value_sums : (vs : Variables) (rows : List Row) (c : Configuration) (most : ℕ) (s : Scene vs rows c most) (k : ℕ) → k < size vs
    → Sums c.value (s.denominator *ℤ pos s.divisor) s.coefficient most vs.terms (most * most) most (form vs k)
value_sums vs rows c most s k l =
    let p = products_of vs rows c most s in
    let terms = s.terms_in in
    record {
      values = λ t o. s.values t (omega arith);
      apart = denominator_apart vs rows c most s;
      small = denominator_size vs rows c most s;
      parts_are = s.forms k l;
      limit =
          let h : vs.terms * s.coefficient * most ≤ most * most = mul_at_most (vs.terms * s.coefficient) most most most p.form (omega arith) in
          omega arith;
    }

pub forming_is_small : (vs : Variables) (rows : List Row) (c : Configuration) (most : ℕ) → Scene vs rows c most → (op : NumOp) (x y : ℚ)
    → IsForming vs c op x y → Needs (most * most) most op x y
forming_is_small vs rows c most s op x y (IsForming.entries k j l free step) =
    summing_is_small (λ t. entry_of c t j) vs k s.denominator s.coefficient s.entry vs.terms (most * most) most (entry_sums vs rows c most s k j l free) op x y step
forming_is_small vs rows c most s op x y (IsForming.values k l step) =
    summing_is_small c.value vs k (s.denominator *ℤ pos s.divisor) s.coefficient most vs.terms (most * most) most (value_sums vs rows c most s k l) op x y step
