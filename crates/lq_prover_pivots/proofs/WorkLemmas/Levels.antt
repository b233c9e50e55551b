-- Rows at values need small numbers: at those of a configuration, of these rows or of others, and at whole ones.
use Rattle.std.proofs.Common.{◌≡◌, ℕ, ℤ, zero, suc, pos, ◌+◌, ◌*◌, ◌<◌, ◌≤◌, arith, refl, sym, ap₂, subst, List, [], ◌∷◌, length, take, slice_get, Some, unsigned_abs}
use Rattle.std.specs.List.{Contains}
use Rattle.std.proofs.Math.IntN.{◌*ℤ◌}
use Rattle.std.proofs.Math.Nat.{mul-le-mul_left}
use Rattle.std.proofs.Math.Seq.{take-length}
use Rattle.std.proofs.lemmas.Int.{ints}
use Rattle.lq_base_numbers.specs.Rationals.Rational.{ℚ, whole, ◌+ℚ◌, ◌*ℚ◌}
use Rattle.lq_base_numbers.specs.Rationals.Solver.{var, con, ◌⊗◌, solve}
use Rattle.lq_base_numbers.specs.declared.fractions.past.NumOp.{NumOp}
use Rattle.lq_base_numbers.specs.declared.fractions.past.NumOp.TheVariants.{Add, Mul}
use Rattle.lq_logic_rows.specs.Difference.{TermsBelow}
use Rattle.lq_logic_rows.specs.Forms.{Parts}
use Rattle.lq_logic_rows.specs.Row.{Row, Valuation, sum_at}
use Rattle.lq_logic_rows.specs.Steps.{IsStep}
use Rattle.lq_prover_pivots.specs.Pivots.Rows.{Variables}
use Rattle.lq_prover_pivots.specs.Pivots.Configurations.{Configuration}
use Rattle.lq_prover_pivots.specs.Cramer.Sizes.{WithinWhole}
use Rattle.lq_prover_pivots.proofs.CramerLemmas.Sizes.{mul_at_most, within_same, within_more, within_product}
use Rattle.lq_prover_pivots.specs.Work.Needs.{Needs}
use Rattle.lq_prover_pivots.specs.Work.Sizes.{largest_part}
use Rattle.lq_prover_pivots.specs.Work.Work.{IsLevel}
use Rattle.lq_prover_pivots.specs.Work.Part.{LevelsAgree}
use Rattle.lq_prover_pivots.proofs.WorkLemmas.Scene.{Listed, Scene}
use Rattle.lq_prover_pivots.proofs.WorkLemmas.Over.{within_whole, size_product}
use Rattle.lq_prover_pivots.proofs.WorkLemmas.Rows.{all_within}
use Rattle.lq_prover_pivots.proofs.WorkLemmas.Summing.{AreValued, Sums, member_at, product_needs, member_needs, constant_needs}
use Rattle.lq_prover_pivots.proofs.WorkLemmas.Forming.{products_in, denominator_apart, denominator_size}

stepping_is_small : (v : Valuation) (row : Row) (q : ℤ) (a b n numer denom k : ℕ) → Sums v q a b n numer denom row.parts
    → WithinWhole k (whole row.constant *ℚ whole q) → (op : NumOp) (x y : ℚ) → IsStep v row op x y → Needs (numer + k) denom op x y
stepping_is_small v row q a b n numer denom k s w _ _ _ (IsStep.member_product i t z at) = product_needs v q a b n (numer + k) denom row.parts i t z (more s) at
  where
    more : Sums v q a b n numer denom row.parts → Sums v q a b n (numer + k) denom row.parts
    more s = let l = s.limit in record { values = s.values; apart = s.apart; small = s.small; parts_are = s.parts_are; limit = omega arith }
stepping_is_small v row q a b n numer denom k s w _ _ _ (IsStep.member_sum i t z at) = member_needs v q a b n (numer + k) denom row.parts i t z (more s) at
  where
    more : Sums v q a b n numer denom row.parts → Sums v q a b n (numer + k) denom row.parts
    more s = let l = s.limit in record { values = s.values; apart = s.apart; small = s.small; parts_are = s.parts_are; limit = omega arith }
stepping_is_small v row q a b n numer denom k s w _ _ _ IsStep.constant_sum = constant_needs v q a b n numer denom k row.parts row.constant s w

-- at values that one number makes whole, times which the constants are at most k
pub row_is_small : (vs : Variables) (rows : List Row) (most k : ℕ) (s : Listed vs rows most) (row : Row) (v : Valuation) (e : ℤ) → Contains rows row
    → AreValued vs.terms most e v → ¬ (e ≡ pos 0) → unsigned_abs e ≤ most → s.constant * unsigned_abs e ≤ k → (op : NumOp) (x y : ℚ) → IsStep v row op x y
    → Needs (most * most + k) most op x y
row_is_small vs rows most k s row v e there values apart small limit op x y step =
    let p = products_in vs rows most s in
    let h : vs.terms * (s.coefficient * s.divisor) * most ≤ most * most = mul_at_most (vs.terms * (s.coefficient * s.divisor)) most most most p.row (omega arith) in
    stepping_is_small v row e (s.coefficient * s.divisor) most vs.terms (most * most) most k
    (record { values = values; apart = apart; small = small; parts_are = s.rows_are row there; limit = omega arith })
    (within_more (s.constant * unsigned_abs e) k (whole row.constant *ℚ whole e) limit
    (within_product s.constant (unsigned_abs e) (whole row.constant) (whole e) (within_whole s.constant row.constant (s.constants row there))
    (within_whole (unsigned_abs e) e (omega arith))))
    op x y step

values_of : (vs : Variables) (rows : List Row) (c : Configuration) (most : ℕ) (s : Scene vs rows c most) → AreValued vs.terms most (s.denominator *ℤ pos s.divisor) c.value
values_of vs rows c most s t l = let terms = s.terms_in in s.values t (omega arith)

pub level_is_small : (vs : Variables) (rows : List Row) (c : Configuration) (most : ℕ) → Scene vs rows c most → (op : NumOp) (x y : ℚ)
    → IsLevel rows c op x y → Needs (most * most + most) most op x y
level_is_small vs rows c most s op x y is =
    let p = products_in vs rows most s.listed in
    let bound = p.bound in
    let e : ℤ = s.denominator *ℤ pos s.divisor in
    let size : unsigned_abs e ≤ s.entry * s.divisor = size_product s.entry s.divisor s.denominator (pos s.divisor) s.within (omega arith) in
    let limit : s.constant * unsigned_abs e ≤ s.constant * (s.entry * s.divisor) = mul-le-mul_left s.constant size in
    row_is_small vs rows most most s.listed is.row c.value e is.there (values_of vs rows c most s) (denominator_apart vs rows c most s)
    (denominator_size vs rows c most s) (omega arith) op x y is.step

-- a row of one list at a configuration of another, where both are over as many terms
pub level_of_another : (vs us : Variables) (rows others : List Row) (c : Configuration) (most : ℕ) → us.terms ≡ vs.terms → Listed vs rows most → Scene us others c most
    → (op : NumOp) (x y : ℚ) → IsLevel rows c op x y → Needs (most * most + most * most) most op x y
level_of_another vs us rows others c most same listed s op x y is =
    let p = products_in vs rows most listed in
    let e : ℤ = s.denominator *ℤ pos s.divisor in
    row_is_small vs rows most (most * most) listed is.row c.value e is.there
    (λ t l. values_of us others c most s t (omega arith)) (denominator_apart us others c most s) (denominator_size us others c most s)
    (mul_at_most listed.constant (unsigned_abs e) most most p.constant (denominator_size us others c most s))
    op x y is.step

one_apart : ¬ (pos 1 ≡ pos 0)
one_apart e = absurd (omega (arith, ints))

times_one : (x : ℚ) → x *ℚ whole (pos 1) ≡ x
times_one x = solve (x ∷ []) (var 0 ⊗ con (pos 1)) (var 0) refl

pub whole_level_is_small : (vs : Variables) (rows : List Row) (most high : ℕ) (s : Listed vs rows most) (row : Row) (v : Valuation)
    → Contains rows row → ((t : ℕ) → t < vs.terms → WithinWhole (high * s.constant) (v t)) → (op : NumOp) (x y : ℚ)
    → IsStep v row op x y → Needs (high * most + most) 1 op x y
whole_level_is_small vs rows most high s row v there values op x y step =
    let p = products_in vs rows most s in
    let size = s.constants row there in
    let constant = p.constant in
    let h : high * (vs.terms * (s.coefficient * (s.divisor * s.constant))) ≤ high * most = mul-le-mul_left high p.row_constant in
    stepping_is_small v row (pos 1) (s.coefficient * s.divisor) (high * s.constant) vs.terms (high * most) 1 most
    (record {
      values = λ t o. within_same (high * s.constant) (v t *ℚ whole (pos 1)) (v t) (times_one (v t)) (values t o);
      apart = one_apart;
      small = omega arith;
      parts_are = s.rows_are row there;
      limit = omega arith;
    })
    (within_same most (whole row.constant *ℚ whole (pos 1)) (whole row.constant) (times_one (whole row.constant)) (within_whole most row.constant (omega arith)))
    op x y step

-- ---- values that are the same at the terms
front_same : (terms : ℕ) (v w : Valuation) (i : ℕ) (parts : Parts) → TermsBelow terms parts → ((t : ℕ) → t < terms → v t ≡ w t)
    → sum_at v (take i parts) ≡ sum_at w (take i parts)
front_same terms v w zero parts below same = refl
front_same terms v w (suc i) [] below same = refl
front_same terms v w (suc i) (part ∷ parts) below same =
    ap₂ (λ s t. whole part.1 *ℚ s +ℚ t) (same part.0 below.0) (front_same terms v w i parts below.1 same)

term_below : (terms : ℕ) (parts : Parts) (i t : ℕ) (z : ℤ) → TermsBelow terms parts → slice_get parts i ≡ Some (t, z) → t < terms
term_below terms parts i t z below at =
    (member_at terms (largest_part parts) parts i t z below (all_within (largest_part parts) parts (omega arith)) at).0

pub levels_agree : LevelsAgree
levels_agree terms v w row _ _ _ below same (IsStep.member_product i t z at) =
    subst (λ y. IsStep w row Mul (whole z) y) (sym (same t (term_below terms row.parts i t z below at))) (IsStep.member_product i t z at)
levels_agree terms v w row _ _ _ below same (IsStep.member_sum i t z at) =
    subst (λ x. IsStep w row Add x (whole z *ℚ v t)) (sym (front_same terms v w i row.parts below same))
    (subst (λ y. IsStep w row Add (sum_at w (take i row.parts)) (whole z *ℚ y)) (sym (same t (term_below terms row.parts i t z below at)))
    (IsStep.member_sum i t z at))
levels_agree terms v w row _ _ _ below same IsStep.constant_sum =
    let all : sum_at v row.parts ≡ sum_at w row.parts =
    subst (λ (ps : Parts). sum_at v ps ≡ sum_at w ps) (take-length row.parts) (front_same terms v w (length row.parts) row.parts below same) in
    subst (λ x. IsStep w row Add x (whole row.constant)) (sym all) IsStep.constant_sum
