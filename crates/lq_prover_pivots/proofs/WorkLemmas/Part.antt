-- A part of a list of rows has no more variables, no larger coefficients and constants, and divisors among those of the list.
use Rattle.std.proofs.Common.{◌≡◌, ◌≢◌, ◌⊎◌, inl, inr, ℕ, zero, suc, ◌-◌, ◌*◌, ◌<◌, ◌≤◌, ◌==◌, if◌then◌else◌, arith, refl, sym, ap, subst, ◌∙◌, List, [], ◌∷◌, length, unsigned_abs}
use Rattle.std.proofs.Math.Nat.{mul-le-mul_left, pow-le-pow_left, pos_of_dvd_of_pos, one-dvd}
use Rattle.std.proofs.lemmas.Bool.{cases_lt}
use Rattle.std.proofs.lemmas.Nat.Gcd.{dvd_trans}
use Rattle.std.specs.Int.{◌∣◌}
use Rattle.std.specs.List.{Contains}
use Rattle.lq_base_numbers.specs.Rationals.Lcm.{lcm_exists, lcm_positive}
use Rattle.lq_logic_rows.specs.Difference.{TermsBelow}
use Rattle.lq_logic_rows.specs.Forms.{Parts, IsNormal, IsMultiple}
use Rattle.lq_logic_rows.specs.Row.{Row, IsRow}
use Rattle.lq_prover_pivots.specs.Pivots.Rows.{Variables, size, form}
use Rattle.lq_prover_pivots.specs.Pivots.Variables.{AreVariables}
use Rattle.lq_prover_pivots.specs.Cramer.Entries.{smaller}
use Rattle.lq_prover_pivots.specs.Cramer.Sizes.{factorial, limit}
use Rattle.lq_prover_pivots.proofs.CramerLemmas.Places.{eqb_by}
use Rattle.lq_prover_pivots.proofs.CramerLemmas.Sizes.{mul_at_most, limit_grows}
use Rattle.lq_prover_pivots.specs.Work.Sizes.{largest_part, largest_coefficient, largest_constant, sum_of_constants, entry_limit, value_limit, IsDivisor, AreDivisorsOf, IsLeastMultiple, AreSized}
use Rattle.lq_prover_pivots.specs.Work.Part.{AreAmong, IsPart, PartsAreSmall}
use Rattle.lq_prover_pivots.proofs.WorkLemmas.Rows.{larger_most, coefficient_most, coefficient_least, constant_most, constant_some, contains_at, divisor_exists}
use Rattle.lq_prover_pivots.proofs.WorkLemmas.Values.{divisor_most, coefficient_some}
use Rattle.lq_prover_pivots.proofs.WorkLemmas.Normal.{normal_once}

-- ---- numbers below m that go to different numbers below n
record IsInto (m n : ℕ) (f : ℕ → ℕ) : Type 0 where
  within : (k : ℕ) → k < m → f k < n
  once : (j k : ℕ) → j < m → k < m → f j ≡ f k → j ≡ k

-- what goes to the last number goes where the last one goes
abbrev moved : ℕ → ℕ → (ℕ → ℕ) → ℕ → ℕ
moved m n f k = if f k == n then f m else f k

data IsMoved (m n : ℕ) (f : ℕ → ℕ) (k : ℕ) : Type 0 where
  last : f k ≡ n → moved m n f k ≡ f m → IsMoved m n f k
  other : f k ≢ n → moved m n f k ≡ f k → IsMoved m n f k

is_moved : (m n : ℕ) (f : ℕ → ℕ) (k : ℕ) → IsMoved m n f k
is_moved m n f k =
    eqb_by (f k) n (λ q e. IsMoved.last e (ap (λ b. if b then f m else f k) q)) (λ q e. IsMoved.other e (ap (λ b. if b then f m else f k) q))

moved_into : (m n : ℕ) (f : ℕ → ℕ) → IsInto (suc m) (suc n) f → IsInto m n (moved m n f)
moved_into m n f is = record {
  within = λ k l. within k l (is_moved m n f k);
  once = λ j k l o e. once j k l o e (is_moved m n f j) (is_moved m n f k);
}
  where
    apart : (k : ℕ) → k < m → f k ≢ f m
    apart k l e = let q : k ≡ m = is.once k m (omega arith) (omega arith) e in absurd (omega arith)

    within : (k : ℕ) → k < m → IsMoved m n f k → moved m n f k < n
    within k l (IsMoved.last e q) = let a = apart k l in let h = is.within m (omega arith) in omega arith
    within k l (IsMoved.other u q) = let h = is.within k (omega arith) in omega arith

    once : (j k : ℕ) → j < m → k < m → moved m n f j ≡ moved m n f k → IsMoved m n f j → IsMoved m n f k → j ≡ k
    once j k l o e (IsMoved.last a p) (IsMoved.last b q) = is.once j k (omega arith) (omega arith) (a ∙ sym b)
    once j k l o e (IsMoved.last a p) (IsMoved.other b q) = absurd (apart k o (sym q ∙ sym e ∙ p))
    once j k l o e (IsMoved.other a p) (IsMoved.last b q) = absurd (apart j l (sym p ∙ e ∙ q))
    once j k l o e (IsMoved.other a p) (IsMoved.other b q) = is.once j k (omega arith) (omega arith) (sym p ∙ e ∙ q)

no_more : (m n : ℕ) (f : ℕ → ℕ) → IsInto m n f → m ≤ n
no_more zero n f is = omega arith
no_more (suc m) zero f is = let h = is.within m (omega arith) in absurd (omega arith)
no_more (suc m) (suc n) f is = let h = no_more m n (moved m n f) (moved_into m n f is) in omega arith

-- ---- each variable of the part is one of the list
record HasForm (vs : Variables) (parts : Parts) : Type 0 where
  place : ℕ
  inside : place < size vs
  same : parts ≡ form vs place

has_parts : (parts ps : Parts) → IsNormal ps → IsMultiple ps parts → parts ≢ []
has_parts parts [] normal m e = normal.above
has_parts parts (p ∷ ps) normal m e = let q = m.is in absurd (cc)

has_form : (all : List Row) (vs : Variables) (part : List Row) (us : Variables) → AreVariables all vs → IsPart all vs part us → (k : ℕ) → k < size us → HasForm vs (form us k)
has_form all vs part us are is k l = by (cases_lt k us.terms)
  where
    by : (k < us.terms) ⊎ (us.terms ≤ k) → HasForm vs (form us k)
    by (inl m) =
        let terms = is.terms in
        let in_terms = are.terms_in in
        record { place = k; inside = omega arith; same = is.variables.named k m ∙ sym (are.named k (omega arith)) }
    by (inr m) =
        let c = is.variables.comes k m l in
        let row = c.1.0 in
        let normal = is.variables.normal k l in
        let has = are.has row (is.among row (contains_at part c.0 row c.1.1)) (has_parts row.parts (form us k) normal c.1.2) in
        record { place = has.0; inside = has.1; same = normal_once row.parts (form us k) (form vs has.0) normal (are.normal has.0 has.1) c.1.2 has.2 }

-- a number for each number, and for those of the part's variables the place of their form
record IsPlaced (vs us : Variables) (k : ℕ) : Type 0 where
  place : ℕ
  inside : k < size us → place < size vs
  same : k < size us → form us k ≡ form vs place

placed : (all : List Row) (vs : Variables) (part : List Row) (us : Variables) → AreVariables all vs → IsPart all vs part us → (k : ℕ) → IsPlaced vs us k
placed all vs part us are is k = by (cases_lt k (size us))
  where
    by : (k < size us) ⊎ (size us ≤ k) → IsPlaced vs us k
    by (inl l) = let h = has_form all vs part us are is k l in record { place = h.place; inside = λ l. h.inside; same = λ l. h.same }
    by (inr m) = record { place = 0; inside = λ l. absurd (omega arith); same = λ l. absurd (omega arith) }

variables_no_more : (all : List Row) (vs : Variables) (part : List Row) (us : Variables) → AreVariables all vs → IsPart all vs part us → size us ≤ size vs
variables_no_more all vs part us are is =
    no_more (size us) (size vs) (λ k. (placed all vs part us are is k).place)
    (record {
      within = λ k l. (placed all vs part us are is k).inside l;
      once = λ j k l m e.
          is.variables.once j k l m
          ((placed all vs part us are is j).same l ∙ ap (λ i. form vs i) e ∙ sym ((placed all vs part us are is k).same m));
    })

coefficient_no_more : (all : List Row) (vs : Variables) (part : List Row) (us : Variables) → AreVariables all vs → IsPart all vs part us
    → largest_coefficient us.forms ≤ largest_coefficient vs.forms
coefficient_no_more all vs part us are is =
    coefficient_least (largest_coefficient vs.forms) us.forms
    (λ k l.
    let h = has_form all vs part us are is k l in
    subst (λ (ps : Parts). largest_part ps ≤ largest_coefficient vs.forms) (sym h.same) (coefficient_most vs.forms h.place))

-- ---- constants
head_in : (row : Row) (rows : List Row) → Contains (row ∷ rows) row
head_in row rows = (0, omega arith, refl)

pub tail_in : (row : Row) (rows : List Row) (r : Row) → Contains rows r → Contains (row ∷ rows) r
tail_in row rows r there = let l = there.1 in (suc there.0, omega arith, there.2)

among_tail : (all : List Row) (row : Row) (rows : List Row) → AreAmong all (row ∷ rows) → AreAmong all rows
among_tail all row rows h r there = h r (tail_in row rows r there)

constant_no_more : (all part : List Row) → AreAmong all part → largest_constant part ≤ largest_constant all
constant_no_more all [] h = constant_some all
constant_no_more all (row ∷ part) h =
    larger_most (unsigned_abs row.constant) (largest_constant part) (largest_constant all) (constant_most all row (h row (head_in row part)))
    (constant_no_more all part (among_tail all row part h))

pub sum_no_more : (all some : List Row) → AreAmong all some → sum_of_constants some ≤ length some * largest_constant all
sum_no_more all [] h = omega arith
sum_no_more all (row ∷ some) h =
    let one = constant_most all row (h row (head_in row some)) in
    let rest = sum_no_more all some (among_tail all row some h) in
    omega arith

-- ---- the least common multiple of the divisors
divisor_divides : (parts : Parts) (g h : ℕ) → IsDivisor parts g → IsDivisor parts h → g ∣ h
divisor_divides [] g h is so = subst (λ t. t ∣ h) (sym is) (one-dvd h)
divisor_divides (part ∷ parts) g h is so = so.greatest g is.divides

record HasMultiple (rows : List Row) : Type 0 where
  multiple : ℕ
  least : IsLeastMultiple rows multiple

pub no_row : {A : Type 0} (row : Row) → Contains [] row → A
no_row row there = let l = there.1 in absurd (omega arith)

pub cases_in : (row : Row) (rows : List Row) (r : Row) → Contains (row ∷ rows) r → (row ≡ r) ⊎ Contains rows r
cases_in row rows r there = by there.0 there.1 there.2
  where
    by : (i : ℕ) → i < suc (length rows) → Rattle.std.specs.Prelude.slice_index_or (row ∷ rows) i r ≡ r → (row ≡ r) ⊎ Contains rows r
    by zero l e = inl e
    by (suc i) l e = inr (i, omega arith, e)

multiple_exists : (rows : List Row) (k : ℕ) → 0 < k → AreDivisorsOf rows k → HasMultiple rows
multiple_exists [] k some h =
    record { multiple = 1; least = record { positive = omega arith; multiple = λ row g there is. no_row row there; least = λ k d. one-dvd k } }
multiple_exists (row ∷ rows) k some h =
    let rest = multiple_exists rows k some (λ r g there is. h r g (tail_in row rows r there) is) in
    let d = divisor_exists row.parts in
    let positive : 0 < d.0 = pos_of_dvd_of_pos (h row d.0 (head_in row rows) d.1) some in
    let least = lcm_exists d.0 rest.multiple positive rest.least.positive in
    record {
      multiple = least.0;
      least = record {
        positive = lcm_positive d.0 rest.multiple least.0 positive rest.least.positive least.1;
        multiple = λ r g there is. elim (cases_in row rows r there) [
          | inl e ↦ dvd_trans g (divisor_divides row.parts g d.0 (subst (λ (r : Row). IsDivisor r.parts g) (sym e) is) d.1) least.1.0
          | inr in_rows ↦ dvd_trans g (rest.least.multiple r g in_rows is) least.1.1
        ];
        least = λ k divisors.
            least.1.2 k (divisors row d.0 (head_in row rows) d.1)
            (rest.least.least k (λ r g there is. divisors r g (tail_in row rows r there) is));
      };
    }

-- ---- all of them
smaller_grows : (a b c d : ℕ) → a ≤ c → b ≤ d → smaller a b ≤ smaller c d
smaller_grows zero b c d l m = omega arith
smaller_grows (suc a) zero c d l m = omega arith
smaller_grows (suc a) (suc b) zero d l m = absurd (omega arith)
smaller_grows (suc a) (suc b) (suc c) zero l m = absurd (omega arith)
smaller_grows (suc a) (suc b) (suc c) (suc d) l m = let h = smaller_grows a b c d (omega arith) (omega arith) in omega arith

limit_wider : (k c d : ℕ) → c ≤ d → limit k c ≤ limit k d
limit_wider k c d l = mul-le-mul_left (factorial k) (pow-le-pow_left l k)

entry_no_more : (all : List Row) (vs : Variables) (part : List Row) (us : Variables) → AreSized all vs → IsPart all vs part us → entry_limit us ≤ entry_limit vs
entry_no_more all vs part us sized is =
    let count = variables_no_more all vs part us sized.variables is in
    let terms = is.terms in
    let k : ℕ = smaller (size us - us.terms) us.terms in
    let n : ℕ = smaller (size vs - vs.terms) vs.terms in
    let less : k ≤ n = smaller_grows (size us - us.terms) us.terms (size vs - vs.terms) vs.terms (omega arith) (omega arith) in
    let wide = limit_wider k (largest_coefficient us.forms) (largest_coefficient vs.forms) (coefficient_no_more all vs part us sized.variables is) in
    let long = limit_grows k n (largest_coefficient vs.forms) (coefficient_some vs all sized) less in
    omega arith

value_no_more : (all : List Row) (vs : Variables) (part : List Row) (us : Variables) → AreSized all vs → IsPart all vs part us
    → value_limit us part ≤ value_limit vs all
value_no_more all vs part us sized is =
    mul_at_most (size us * entry_limit us) (largest_constant part) (size vs * entry_limit vs) (largest_constant all)
    (mul_at_most (size us) (entry_limit us) (size vs) (entry_limit vs) (variables_no_more all vs part us sized.variables is)
    (entry_no_more all vs part us sized is))
    (constant_no_more all part is.among)

divisors_of : (all : List Row) (vs : Variables) (part : List Row) (us : Variables) (sized : AreSized all vs) → IsPart all vs part us → AreDivisorsOf part sized.multiple
divisors_of all vs part us sized is row g there = sized.least.multiple row g (is.among row there)

abbrev part_sized : (all : List Row) (vs : Variables) (part : List Row) (us : Variables) → AreSized all vs → IsPart all vs part us → HasMultiple part → AreSized part us
part_sized all vs part us sized is m = record {
  variables = is.variables;
  each = λ row there. subst (λ n. IsRow row × TermsBelow n row.parts) (sym is.terms) (sized.each row (is.among row there));
  some = subst (λ n. 1 ≤ n) (sym is.terms) sized.some;
  multiple = m.multiple;
  least = m.least;
}

pub parts_are_small : PartsAreSmall
parts_are_small all vs part us small is =
    let sized = small.sized in
    let m = multiple_exists part sized.multiple sized.least.positive (divisors_of all vs part us sized is) in
    let divides : m.multiple ∣ sized.multiple = m.least.least sized.multiple (divisors_of all vs part us sized is) in
    let less : m.multiple ≤ sized.multiple = divisor_most m.multiple sized.multiple sized.least.positive divides in
    let product = mul_at_most (value_limit us part) m.multiple (value_limit vs all) sized.multiple (value_no_more all vs part us sized is) less in
    let most = small.small in
    record { sized = part_sized all vs part us sized is m; small = omega arith }
