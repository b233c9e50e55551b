-- The values of a configuration over one denominator, and all that the sizes say of it.
use Rattle.std.proofs.Common.{◌≡◌, ℕ, ℤ, zero, suc, pos, ◌-◌, ◌*◌, ◌/◌, ◌<◌, ◌≤◌, ◌⊎◌, inl, inr, arith, refl, sym, ap, subst, ◌∙◌, Bool, true, false, ◌==◌, if◌then◌else◌, List, [], ◌∷◌, unsigned_abs}
use Rattle.std.proofs.Math.IntN.{◌*ℤ◌}
use Rattle.std.proofs.Math.Nat.{div-mul_cancel, mul-le-mul_left}
use Rattle.std.proofs.lemmas.Bool.{cases_lt}
use Rattle.std.proofs.lemmas.Nat.Gcd.{dvd_trans}
use Rattle.std.specs.Int.{◌∣◌}
use Rattle.std.specs.List.{Contains}
use Rattle.lq_base_numbers.specs.Rationals.Rational.{ℚ, whole, ◌*ℚ◌, neg_ℚ}
use Rattle.lq_base_numbers.specs.Rationals.Solver.{var, con, ◌⊗◌, solve}
use Rattle.lq_logic_rows.specs.Difference.{TermsBelow}
use Rattle.lq_logic_rows.specs.Forms.{Parts, IsMultiple}
use Rattle.lq_logic_rows.specs.Row.{Row, AscendsFrom}
use Rattle.lq_logic_rows.specs.declared.bound.Side.{Side}
use Rattle.lq_prover_pivots.specs.Pivots.Ranges.{count_below, only_if, combine}
use Rattle.lq_prover_pivots.specs.Pivots.Rows.{Variables, size, form, Gives}
use Rattle.lq_prover_pivots.specs.Pivots.Configurations.{Configuration, Free, Basic, IsConfiguration}
use Rattle.lq_prover_pivots.proofs.PivotsLemmas.Ranges.{sum_below-scale}
use Rattle.lq_prover_pivots.specs.Cramer.Entries.{IsSized, HasDenominator, smaller}
use Rattle.lq_prover_pivots.specs.Cramer.Sizes.{WithinWhole, limit}
use Rattle.lq_prover_pivots.proofs.CramerLemmas.Entries.{entries_are_quotients}
use Rattle.lq_prover_pivots.proofs.CramerLemmas.Members.{split}
use Rattle.lq_prover_pivots.proofs.CramerLemmas.Parts.{coefficient_within}
use Rattle.lq_prover_pivots.proofs.CramerLemmas.Sizes.{mul_at_most, within_same, within_more, within_zero, within_product, within_neg, limit_some, limit_next, within_sum_below}
use Rattle.lq_prover_pivots.specs.Work.Sizes.{largest_part, largest_coefficient, largest_constant, entry_limit, value_limit, IsDivisor, AreSized}
use Rattle.lq_prover_pivots.specs.Work.Work.{entry_of}
use Rattle.lq_prover_pivots.specs.Work.Laws.{ValuesAreQuotients}
use Rattle.lq_prover_pivots.proofs.WorkLemmas.Scaled.{part_within, some_times}
use Rattle.lq_prover_pivots.proofs.WorkLemmas.Scene.{Numbers, AreParts, Listed, Scene, at_least}
use Rattle.lq_prover_pivots.proofs.WorkLemmas.Over.{within_whole, by_product, within_before}
use Rattle.lq_prover_pivots.proofs.WorkLemmas.Rows.{all_within, coefficient_most, coefficient_least, constant_most, constant_some, contains_at, ascends_length, names_once, form_ascends, form_below, times_within, divisor_exists, factor_divides, times_of}

-- ---- forms
record IsOverTerms (n : ℕ) (parts : Parts) : Type 0 where
  ascends : AscendsFrom 0 parts
  below : TermsBelow n parts

over_terms : (vs : Variables) (rows : List Row) (sized : AreSized rows vs) (k : ℕ) → k < size vs → IsOverTerms vs.terms (form vs k)
over_terms vs rows sized k l = by (cases_lt k vs.terms)
  where
    by : (k < vs.terms) ⊎ (vs.terms ≤ k) → IsOverTerms vs.terms (form vs k)
    by (inl m) = subst (λ (ps : Parts). IsOverTerms vs.terms ps) (sym (sized.variables.named k m)) (record { ascends = (omega arith, tt); below = (m, tt) })
    by (inr m) =
        let c = sized.variables.comes k m l in
        let row = c.1.0 in
        let of = c.1.2 in
        let each = sized.each row (contains_at rows c.0 row c.1.1) in
        record {
          ascends = form_ascends 0 of.factor (form vs k) (subst (λ (ps : Parts). AscendsFrom 0 ps) of.is each.0.ascending);
          below = form_below vs.terms of.factor (form vs k) (subst (λ (ps : Parts). TermsBelow vs.terms ps) of.is each.1);
        }

form_parts : (vs : Variables) (rows : List Row) (sized : AreSized rows vs) (k : ℕ) → k < size vs → AreParts vs.terms (largest_coefficient vs.forms) (form vs k)
form_parts vs rows sized k l =
    let is = over_terms vs rows sized k l in
    let short = ascends_length 0 vs.terms (form vs k) is.ascends is.below (omega arith) in
    record { below = is.below; within = all_within (largest_coefficient vs.forms) (form vs k) (coefficient_most vs.forms k); short = omega arith }

pub coefficient_some : (vs : Variables) (rows : List Row) (sized : AreSized rows vs) → 1 ≤ largest_coefficient vs.forms
coefficient_some vs rows sized =
    let some = sized.some in
    let first : largest_part (form vs 0) ≡ 1 = ap largest_part (sized.variables.named 0 (omega arith)) in
    let most : largest_part (form vs 0) ≤ largest_coefficient vs.forms = coefficient_most vs.forms 0 in
    omega arith

is_sized : (vs : Variables) (rows : List Row) (sized : AreSized rows vs) → IsSized vs (size vs - vs.terms) (largest_coefficient vs.forms)
is_sized vs rows sized = record {
  count = let l = sized.variables.terms_in in omega arith;
  named = sized.variables.named;
  sized = λ k t l m.
      coefficient_within (largest_coefficient vs.forms) t (form vs k) (names_once 0 (form vs k) (over_terms vs rows sized k l).ascends)
      (form_parts vs rows sized k l).within;
}

-- ---- the limit of the entries is at least the largest coefficient
limit_at_least : (k c : ℕ) → 1 ≤ c → c ≤ limit (suc k) c
limit_at_least k c h =
    let some = limit_some k c h in
    let e = limit_next k c in
    let l : 1 * (c * 1) ≤ suc k * (c * limit k c) = mul_at_most 1 (c * 1) (suc k) (c * limit k c) (omega arith) (mul-le-mul_left c some) in
    omega arith

smaller_at_least : (m n c : ℕ) → 1 ≤ m → 1 ≤ n → 1 ≤ c → c ≤ limit (smaller m n) c
smaller_at_least zero n c l o h = absurd (omega arith)
smaller_at_least (suc m) zero c l o h = absurd (omega arith)
smaller_at_least (suc m) (suc n) c l o h = limit_at_least (smaller m n) c h

one_coefficient : (vs : Variables) (rows : List Row) (sized : AreSized rows vs) → size vs ≤ vs.terms → largest_coefficient vs.forms ≤ 1
one_coefficient vs rows sized l =
    coefficient_least 1 vs.forms (λ k o.
    let e : largest_part (form vs k) ≡ 1 = ap largest_part (sized.variables.named k (let m : k < vs.terms = omega arith in m)) in
    let h : largest_part (form vs k) ≤ 1 = omega arith in h)

entry_at_least : (vs : Variables) (rows : List Row) (sized : AreSized rows vs) → largest_coefficient vs.forms ≤ entry_limit vs
entry_at_least vs rows sized = by (cases_lt vs.terms (size vs))
  where
    by : (vs.terms < size vs) ⊎ (size vs ≤ vs.terms) → largest_coefficient vs.forms ≤ entry_limit vs
    by (inl l) =
        smaller_at_least (size vs - vs.terms) vs.terms (largest_coefficient vs.forms) (let o : 1 ≤ size vs - vs.terms = omega arith in o) sized.some
        (coefficient_some vs rows sized)
    by (inr l) =
        let one = one_coefficient vs rows sized l in
        let some : 1 ≤ entry_limit vs = limit_some (smaller (size vs - vs.terms) vs.terms) (largest_coefficient vs.forms) (coefficient_some vs rows sized) in
        omega arith

-- ---- rows
pub divisor_most : (a m : ℕ) → 0 < m → a ∣ m → a ≤ m
divisor_most a m some h =
    let u : m / a * a ≡ m = div-mul_cancel a h in
    part_within (m / a) a m (some_times (m / a) a m some (sym u)) (sym u)

divides_multiple : (vs : Variables) (rows : List Row) (sized : AreSized rows vs) (row : Row) (k : ℕ) → Contains rows row → k < size vs
    → (of : IsMultiple (form vs k) row.parts) → unsigned_abs of.factor ∣ sized.multiple
divides_multiple vs rows sized row k there l of =
    let g = divisor_exists row.parts in
    dvd_trans (unsigned_abs of.factor)
    (factor_divides of.factor (form vs k) g.0 (sized.variables.normal k l).above (subst (λ (ps : Parts). IsDivisor ps g.0) of.is g.1))
    (sized.least.multiple row g.0 there g.1)

row_parts : (vs : Variables) (rows : List Row) (sized : AreSized rows vs) (row : Row) → Contains rows row
    → AreParts vs.terms (largest_coefficient vs.forms * sized.multiple) row.parts
row_parts vs rows sized row there =
    let each = sized.each row there in
    let short = ascends_length 0 vs.terms row.parts each.0.ascending each.1 (omega arith) in
    record { below = each.1; within = by row.parts refl; short = omega arith }
  where
    by : (parts : Parts) → row.parts ≡ parts → Rattle.lq_prover_pivots.proofs.CramerLemmas.Parts.AllWithin (largest_coefficient vs.forms * sized.multiple) row.parts
    by [] e = subst (λ (ps : Parts). Rattle.lq_prover_pivots.proofs.CramerLemmas.Parts.AllWithin (largest_coefficient vs.forms * sized.multiple) ps) (sym e) tt
    by (part ∷ parts) e =
        let has = sized.variables.has row there (λ h. absurd (cc)) in
        let of = has.2 in
        let small = divisor_most (unsigned_abs of.factor) sized.multiple sized.least.positive (divides_multiple vs rows sized row has.0 there has.1 of) in
        subst (λ (ps : Parts). Rattle.lq_prover_pivots.proofs.CramerLemmas.Parts.AllWithin (largest_coefficient vs.forms * sized.multiple) ps) (sym of.is)
        (times_within (largest_coefficient vs.forms) sized.multiple of.factor (form vs has.0) small (form_parts vs rows sized has.0 has.1).within)

divisors_positive : (rows : List Row) (m g : ℕ) → 0 < m → g ∣ m → (0 < g) × (g ≤ m)
divisors_positive rows m g some h = (Rattle.std.proofs.Math.Nat.pos_of_dvd_of_pos h some, divisor_most g m some h)

bound_within : (vs : Variables) (rows : List Row) (sized : AreSized rows vs) (side : Side) (k : ℕ) (x : ℚ) → Gives vs rows side k x
    → WithinWhole (largest_constant rows * sized.multiple) (x *ℚ whole (pos sized.multiple))
bound_within vs rows sized side k x given =
    let b = given.bounds in
    let f : ℤ = b.multiple.factor in
    let t = times_of f sized.multiple sized.least.positive (divides_multiple vs rows sized given.row k given.there given.inside b.multiple) in
    within_same (largest_constant rows * sized.multiple) (x *ℚ whole (pos sized.multiple)) (neg_ℚ (whole given.row.constant) *ℚ whole t.by)
    (ap (λ z. x *ℚ whole z) t.is ∙ by_product x f t.by
    ∙ ap (λ z. z *ℚ whole t.by) (solve (x ∷ whole f ∷ []) (var 0 ⊗ var 1) (var 1 ⊗ var 0) refl ∙ b.is))
    (within_product (largest_constant rows) sized.multiple (neg_ℚ (whole given.row.constant)) (whole t.by)
    (within_neg (largest_constant rows) (whole given.row.constant)
    (within_whole (largest_constant rows) given.row.constant (constant_most rows given.row given.there)))
    (within_whole sized.multiple t.by t.within))

-- ---- entries
denominator_of : (vs : Variables) (rows : List Row) (c : Configuration) (sized : AreSized rows vs) → IsConfiguration vs rows c → HasDenominator vs c (entry_limit vs)
denominator_of vs rows c sized is =
    entries_are_quotients vs rows (size vs - vs.terms) (largest_coefficient vs.forms) c (coefficient_some vs rows sized) (is_sized vs rows sized) is

unit_within : (most : ℕ) (d : ℤ) (b : Bool) → unsigned_abs d ≤ most → WithinWhole most ((if b then whole (pos 1) else whole (pos 0)) *ℚ whole d)
unit_within most d true l =
    within_same most (whole (pos 1) *ℚ whole d) (whole d) (solve (whole d ∷ []) (con (pos 1) ⊗ var 0) (var 0) refl) (within_whole most d l)
unit_within most d false l =
    within_same most (whole (pos 0) *ℚ whole d) (whole (pos 0)) (solve (whole d ∷ []) (con (pos 0) ⊗ var 0) (con (pos 0)) refl) (within_zero most)

entry_of_within : (vs : Variables) (c : Configuration) (most : ℕ) (h : HasDenominator vs c most) (k j : ℕ) → k < size vs → Free vs c j
    → WithinWhole most (entry_of c k j *ℚ whole h.denominator)
entry_of_within vs c most h k j l free = by (split (c.is_free k))
  where
    by : (c.is_free k ≡ true) ⊎ (c.is_free k ≡ false) → WithinWhole most (entry_of c k j *ℚ whole h.denominator)
    by (inl e) =
        within_same most (entry_of c k j *ℚ whole h.denominator) ((if k == j then whole (pos 1) else whole (pos 0)) *ℚ whole h.denominator)
        (ap (λ b. (if b then (if k == j then whole (pos 1) else whole (pos 0)) else c.entry k j) *ℚ whole h.denominator) e)
        (unit_within most h.denominator (k == j) h.within)
    by (inr e) =
        within_same most (entry_of c k j *ℚ whole h.denominator) (c.entry k j *ℚ whole h.denominator)
        (ap (λ b. (if b then (if k == j then whole (pos 1) else whole (pos 0)) else c.entry k j) *ℚ whole h.denominator) e)
        (h.entries k j (l, e) free)

-- ---- values
free_value : (vs : Variables) (rows : List Row) (c : Configuration) (sized : AreSized rows vs) → IsConfiguration vs rows c → (j : ℕ) → Free vs c j
    → WithinWhole (largest_constant rows * sized.multiple) (c.value j *ℚ whole (pos sized.multiple))
free_value vs rows c sized is j free = by (is.rests j free)
  where
    by : (c.value j ≡ whole (pos 0)) ⊎ ((side : Side) × Gives vs rows side j (c.value j))
        → WithinWhole (largest_constant rows * sized.multiple) (c.value j *ℚ whole (pos sized.multiple))
    by (inl e) =
        within_same (largest_constant rows * sized.multiple) (c.value j *ℚ whole (pos sized.multiple)) (whole (pos 0))
        (ap (λ t. t *ℚ whole (pos sized.multiple)) e ∙ solve (whole (pos sized.multiple) ∷ []) (con (pos 0) ⊗ var 0) (con (pos 0)) refl)
        (within_zero (largest_constant rows * sized.multiple))
    by (inr given) = bound_within vs rows sized given.0 j (c.value j) given.1

turned : (x : ℚ) (d g : ℤ) (a v : ℚ) → x ≡ a *ℚ v → whole (d *ℤ g) *ℚ x ≡ a *ℚ whole d *ℚ (v *ℚ whole g)
turned x d g a v e =
    ap (λ t. whole (d *ℤ g) *ℚ t) e
    ∙ solve (whole (d *ℤ g) ∷ a ∷ v ∷ []) (var 0 ⊗ (var 1 ⊗ var 2)) (var 1 ⊗ var 2 ⊗ var 0) refl
    ∙ by_product (a *ℚ v) d g
    ∙ solve (a ∷ v ∷ whole d ∷ whole g ∷ []) (var 0 ⊗ var 1 ⊗ var 2 ⊗ var 3) (var 0 ⊗ var 2 ⊗ (var 1 ⊗ var 3)) refl

basic_value : (vs : Variables) (rows : List Row) (c : Configuration) (sized : AreSized rows vs) (is : IsConfiguration vs rows c) (h : HasDenominator vs c (entry_limit vs))
    (k : ℕ) → Basic vs c k
    → WithinWhole (vs.terms * (entry_limit vs * (largest_constant rows * sized.multiple))) (c.value k *ℚ whole (h.denominator *ℤ pos sized.multiple))
basic_value vs rows c sized is h k basic =
    let q : ℤ = h.denominator *ℤ pos sized.multiple in
    let one : ℕ = entry_limit vs * (largest_constant rows * sized.multiple) in
    let f : ℕ → ℚ = λ j. only_if (c.is_free j) (c.entry k j *ℚ c.value j) in
    within_same (vs.terms * one) (c.value k *ℚ whole q) (Rattle.lq_prover_pivots.specs.Pivots.Ranges.sum_below (size vs) (λ j. whole q *ℚ f j))
    (ap (λ t. t *ℚ whole q) (is.valued k basic)
    ∙ solve (Rattle.lq_prover_pivots.specs.Pivots.Ranges.sum_below (size vs) f ∷ whole q ∷ []) (var 0 ⊗ var 1) (var 1 ⊗ var 0) refl
    ∙ sym (sum_below-scale (size vs) (whole q) f))
    (subst (λ n. WithinWhole (n * one) (Rattle.lq_prover_pivots.specs.Pivots.Ranges.sum_below (size vs) (λ j. whole q *ℚ f j))) is.count
    (within_sum_below (size vs) one (λ j. whole q *ℚ f j) c.is_free
    (λ j l e.
    within_same one (whole q *ℚ f j) (c.entry k j *ℚ whole h.denominator *ℚ (c.value j *ℚ whole (pos sized.multiple)))
    (turned (f j) h.denominator (pos sized.multiple) (c.entry k j) (c.value j) (ap (λ b. only_if b (c.entry k j *ℚ c.value j)) e))
    (within_product (entry_limit vs) (largest_constant rows * sized.multiple) (c.entry k j *ℚ whole h.denominator) (c.value j *ℚ whole (pos sized.multiple))
    (h.entries k j basic (l, e)) (free_value vs rows c sized is j (l, e))))
    (λ j l e.
    ap (λ b. whole q *ℚ only_if b (c.entry k j *ℚ c.value j)) e ∙ solve (whole q ∷ []) (var 0 ⊗ con (pos 0)) (con (pos 0)) refl)))

any_value : (vs : Variables) (rows : List Row) (c : Configuration) (sized : AreSized rows vs) (is : IsConfiguration vs rows c) (h : HasDenominator vs c (entry_limit vs))
    (k : ℕ) → k < size vs
    → WithinWhole (vs.terms * (entry_limit vs * (largest_constant rows * sized.multiple))) (c.value k *ℚ whole (h.denominator *ℤ pos sized.multiple))
any_value vs rows c sized is h k l = by (split (c.is_free k))
  where
    by : (c.is_free k ≡ true) ⊎ (c.is_free k ≡ false)
        → WithinWhole (vs.terms * (entry_limit vs * (largest_constant rows * sized.multiple))) (c.value k *ℚ whole (h.denominator *ℤ pos sized.multiple))
    by (inl e) =
        let g : ℕ = largest_constant rows * sized.multiple in
        let m = at_least vs.terms (entry_limit vs * g) sized.some in
        within_more (g * entry_limit vs) (vs.terms * (entry_limit vs * g)) (c.value k *ℚ whole (h.denominator *ℤ pos sized.multiple)) (omega arith)
        (within_before g (entry_limit vs) (c.value k) h.denominator (pos sized.multiple) (free_value vs rows c sized is k (l, e)) h.within)
    by (inr e) = basic_value vs rows c sized is h k (l, e)

-- ---- all that the sizes say
limit_small : (n s d k g most : ℕ) → n ≤ s → s * d * k * g ≤ most → n * (d * (k * g)) ≤ most
limit_small n s d k g most l h =
    let m : d * (k * g) * n ≤ d * (k * g) * s = mul-le-mul_left (d * (k * g)) l in
    omega arith

numbers_of : (vs : Variables) (rows : List Row) (most : ℕ) (sized : AreSized rows vs) → value_limit vs rows * sized.multiple ≤ most
    → Numbers vs.terms (largest_coefficient vs.forms) (entry_limit vs) (largest_constant rows) sized.multiple most
numbers_of vs rows most sized small = record {
  terms = sized.some;
  coefficient = coefficient_some vs rows sized;
  constant = constant_some rows;
  divisor = let p = sized.least.positive in omega arith;
  entry = entry_at_least vs rows sized;
  all = limit_small vs.terms (size vs) (entry_limit vs) (largest_constant rows) sized.multiple most sized.variables.terms_in small;
}

pub listed_of : (vs : Variables) (rows : List Row) (most : ℕ) (sized : AreSized rows vs) → value_limit vs rows * sized.multiple ≤ most → Listed vs rows most
listed_of vs rows most sized small = record {
  coefficient = largest_coefficient vs.forms;
  entry = entry_limit vs;
  constant = largest_constant rows;
  divisor = sized.multiple;
  constant_is = refl;
  numbers = numbers_of vs rows most sized small;
  rows_are = row_parts vs rows sized;
  constants = constant_most rows;
  divisors = λ row g there is. divisors_positive rows sized.multiple g sized.least.positive (sized.least.multiple row g there is);
}

pub scene_of : (vs : Variables) (rows : List Row) (c : Configuration) (most : ℕ) (sized : AreSized rows vs) → value_limit vs rows * sized.multiple ≤ most
    → IsConfiguration vs rows c → Scene vs rows c most
unfolding listed_of
scene_of vs rows c most sized small is =
    let h = denominator_of vs rows c sized is in
    record {
      listed = listed_of vs rows most sized small;
      terms_in = sized.variables.terms_in;
      forms = form_parts vs rows sized;
      bounds = bound_within vs rows sized;
      denominator = h.denominator;
      some = h.some;
      within = h.within;
      entries = entry_of_within vs c (entry_limit vs) h;
      values = λ k l.
          within_more (vs.terms * (entry_limit vs * (largest_constant rows * sized.multiple))) most (c.value k *ℚ whole (h.denominator *ℤ pos sized.multiple))
          (numbers_of vs rows most sized small).all
          (any_value vs rows c sized is h k l);
    }

pub values_are_quotients : ValuesAreQuotients
values_are_quotients vs rows c sized is =
    let h = denominator_of vs rows c sized is in
    let m = limit_small vs.terms (size vs) (entry_limit vs) (largest_constant rows) sized.multiple (value_limit vs rows * sized.multiple) sized.variables.terms_in (omega arith) in
    record {
      denominator = h.denominator;
      some = h.some;
      within = h.within;
      entries = entry_of_within vs c (entry_limit vs) h;
      values = λ k l.
          within_more (vs.terms * (entry_limit vs * (largest_constant rows * sized.multiple))) (value_limit vs rows * sized.multiple)
          (c.value k *ℚ whole (h.denominator *ℤ pos sized.multiple)) m
          (any_value vs rows c sized is h k l);
    }
