-- A list of rows each of which has its other row in a second list, over as many terms or more, has no larger sizes.
use Rattle.std.proofs.Common.{◌≡◌, ◌≢◌, ◌⊎◌, inl, inr, ℕ, zero, suc, pos, ◌+◌, ◌-◌, ◌*◌, ◌^◌, ◌<◌, ◌≤◌, arith, refl, sym, subst, ◌∙◌, true, List, [], ◌∷◌, Some, length, slice_get, unsigned_abs}
use Rattle.std.specs.Int.{◌∣◌}
use Rattle.std.specs.List.{Contains}
use Rattle.std.proofs.Math.Nat.{mul-le-mul_left, one-dvd, pos_of_dvd_of_pos, pow-le-pow_left, pow-le-pow_right}
use Rattle.std.proofs.lemmas.Bool.{cases_lt}
use Rattle.std.proofs.lemmas.Nat.Gcd.{dvd_trans}
use Rattle.std.proofs.lemmas.Option.{slice_get_cases}
use Rattle.lq_base_numbers.specs.Rationals.Lcm.{lcm_exists, lcm_positive}
use Rattle.lq_logic_rows.specs.Difference.{TermsBelow}
use Rattle.lq_logic_rows.specs.Forms.{Parts, IsMultiple, IsNormal}
use Rattle.lq_logic_rows.specs.Row.{Row}
use Rattle.lq_prover_pivots.specs.Pivots.Laws.{choose}
use Rattle.lq_prover_pivots.specs.Pivots.Rows.{Variables, size, form}
use Rattle.lq_prover_pivots.specs.Pivots.Variables.{AreVariables}
use Rattle.lq_logic_predicates.specs.Numbering.{index_of-present, index_of-slice_get, slice_get-has_term, slice_get-index_of}
use Rattle.lq_logic_predicates.specs.Sum.{Sum}
use Rattle.lq_logic_predicates.specs.Table.{all_differ, has_term, index_of}
use Rattle.lq_prover_pivots.specs.Cramer.Entries.{smaller}
use Rattle.lq_prover_pivots.specs.Cramer.Sizes.{factorial, limit}
use Rattle.lq_prover_pivots.proofs.CramerLemmas.Sizes.{limit_grows, mul_at_most}
use Rattle.lq_prover_pivots.specs.Work.Sizes.{largest_part, largest_coefficient, largest_constant, entry_limit, value_limit, IsDivisor, AreDivisorsOf, IsLeastMultiple, AreSized, AreSmall}
use Rattle.lq_prover_pivots.proofs.WorkLemmas.Part.{cases_in, no_row, tail_in}
use Rattle.lq_prover_pivots.proofs.WorkLemmas.Rows.{coefficient_least, coefficient_most, constant_most, constant_some, contains_at, divisor_exists, larger_most}
use Rattle.lq_prover_pivots.proofs.WorkLemmas.Values.{coefficient_some, divisor_most}
use Rattle.lq_solve_strongest.specs.Selections.Small.{chain_limit}
use Rattle.lq_solve_strongest.proofs.SelectionsLemmas.Counting.{choose_grows, no_more}
use Rattle.lq_solve_strongest.proofs.SelectionsLemmas.Matched.{IsMatched, constants_match, divides_in, divisor_in, form_long, form_most, form_once, none_in, row_below, swapped}

-- each row of the one list has its other row in the other list
abbrev pub EachMatched : List Sum → List Sum → List Row → List Row → Type 0
EachMatched T U some all = (r : Row) → Contains some r → (s : Row) × Contains all s × IsMatched T U r s

-- ---- terms

-- one term stands at both numbers
abbrev BothStand : List Sum → List Sum → ℕ → ℕ → Type 0
BothStand T U k l = (t : Sum) × (slice_get T k ≡ Some t) × (slice_get U l ≡ Some t)

pub fewer_terms : (T U : List Sum) → all_differ T ≡ true → ((t : Sum) → has_term T t ≡ true → has_term U t ≡ true) → length T ≤ length U
fewer_terms T U once under = no_more (length T) (length U) (BothStand T U) goes same
  where
    goes : (k : ℕ) → k < length T → (l : ℕ) × (l < length U) × BothStand T U k l
    goes k h = elim (slice_get_cases T k).1 [
      | inl f ↦
          let t = f.0 in
          let in_other = under t (slice_get-has_term T k t f.2) in
          (index_of U t, index_of-present U t in_other, (t, f.2, slice_get-index_of U t in_other))
      | inr p ↦ let n = p.0 in absurd (omega arith)
    ]

    same : (j k l : ℕ) → j < length T → k < length T → BothStand T U j l → BothStand T U k l → j ≡ k
    same j k l g h p q =
        let e : Some p.0 ≡ Some q.0 = sym p.2 ∙ q.2 in
        sym (index_of-slice_get T j p.0 once p.1) ∙ index_of-slice_get T k p.0 once (q.1 ∙ sym e)

-- ---- the least common multiple of the divisors of rows

record HasMultiple (rows : List Row) : Type 0 where
  multiple : ℕ
  least : IsLeastMultiple rows multiple

divisor_divides : (parts : Parts) (g h : ℕ) → IsDivisor parts g → IsDivisor parts h → g ∣ h
divisor_divides [] g h is so = subst (λ t. t ∣ h) (sym is) (one-dvd h)
divisor_divides (part ∷ parts) g h is so = so.greatest g is.divides

multiple_exists : (rows : List Row) (k : ℕ) → 0 < k → AreDivisorsOf rows k → HasMultiple rows
multiple_exists [] k some h =
    record { multiple = 1; least = record { positive = omega arith; multiple = λ row g there is. no_row row there; least = λ k d. one-dvd k } }
multiple_exists (row ∷ rows) k some h =
    let rest = multiple_exists rows k some (λ r g there is. h r g (tail_in row rows r there) is) in
    let d = divisor_exists row.parts in
    let here : Contains (row ∷ rows) row = (0, omega arith, refl) in
    let positive : 0 < d.0 = pos_of_dvd_of_pos (h row d.0 here d.1) some in
    let least = lcm_exists d.0 rest.multiple positive rest.least.positive in
    record {
      multiple = least.0;
      least = record {
        positive = lcm_positive d.0 rest.multiple least.0 positive rest.least.positive least.1;
        multiple = λ r g there is. elim (cases_in row rows r there) [
          | inl e ↦ dvd_trans g (divisor_divides row.parts g d.0 (subst (λ (x : Row). IsDivisor x.parts g) (sym e) is) d.1) least.1.0
          | inr in_rows ↦ dvd_trans g (rest.least.multiple r g in_rows is) least.1.1
        ];
        least = λ k divisors.
            least.1.2 k (divisors row d.0 here d.1) (rest.least.least k (λ r g there is. divisors r g (tail_in row rows r there) is));
      };
    }

-- ---- limits

smaller_grows : (a b c d : ℕ) → a ≤ c → b ≤ d → smaller a b ≤ smaller c d
smaller_grows zero b c d l m = omega arith
smaller_grows (suc a) zero c d l m = omega arith
smaller_grows (suc a) (suc b) zero d l m = absurd (omega arith)
smaller_grows (suc a) (suc b) (suc c) zero l m = absurd (omega arith)
smaller_grows (suc a) (suc b) (suc c) (suc d) l m = let h = smaller_grows a b c d (omega arith) (omega arith) in omega arith

limit_wider : (k c d : ℕ) → c ≤ d → limit k c ≤ limit k d
limit_wider k c d l = mul-le-mul_left (factorial k) (pow-le-pow_left l k)

constants_most : (rows : List Row) (c : ℕ) → 1 ≤ c → ((r : Row) → Contains rows r → unsigned_abs r.constant ≤ c) → largest_constant rows ≤ c
constants_most [] c some h = some
constants_most (row ∷ rows) c some h =
    larger_most (unsigned_abs row.constant) (largest_constant rows) c (h row (0, omega arith, refl)) (constants_most rows c some (λ r there. h r (tail_in row rows r there)))

has_parts : (parts ps : Parts) → IsNormal ps → IsMultiple ps parts → parts ≢ []
has_parts parts [] normal m e = normal.above
has_parts parts (p ∷ ps) normal m e = let q = m.is in absurd (cc)

-- ---- two lists

module _ (T U : List Sum) (once : all_differ T ≡ true) (other_once : all_differ U ≡ true) (under : (t : Sum) → has_term T t ≡ true → has_term U t ≡ true)
    (some all : List Row) (us vs : Variables) (matched : EachMatched T U some all) (us_terms : us.terms ≡ length T) (vs_terms : vs.terms ≡ length U)
    (are : AreVariables some us) (sized : AreSized all vs) where
  terms_grow : us.terms ≤ vs.terms
  terms_grow = let h = fewer_terms T U once under in omega arith

  -- a variable of two or more terms is the form of a row, and its place that of the other row's
  record IsPlaced (k l : ℕ) : Type 0 where
    inside : l < size vs
    long : vs.terms ≤ l
    row : Row
    other : Row
    match : IsMatched T U row other
    of : IsMultiple (form us k) row.parts
    to : IsMultiple (form vs l) other.parts

  placed : (k : ℕ) → us.terms ≤ k → k < size us → (l : ℕ) × IsPlaced k l
  placed k l h = (place.0, record { inside = place.1; long = elim (cases_lt place.0 vs.terms) [ inl n ↦ absurd (short n) | inr n ↦ n ]; row = row; other = other.0; match = other.2; of = of; to = place.2 })
    where
      row : Row
      row = (are.comes k l h).1.0

      of : IsMultiple (form us k) row.parts
      of = (are.comes k l h).1.2

      other : (s : Row) × Contains all s × IsMatched T U row s
      other = matched row (contains_at some (are.comes k l h).0 row (are.comes k l h).1.1)

      place : (n : ℕ) × (n < size vs) × IsMultiple (form vs n) other.0.parts
      place =
          sized.variables.has other.0 other.1
          (λ e. has_parts row.parts (form us k) (are.normal k h) of (none_in T U once row other.0 other.2 e))

      short : place.0 < vs.terms → ⊥
      short n =
          form_long T U once under row other.0 other.2 (form us k) place.0 (are.longer k l h) of
          (subst (λ (g : Parts). IsMultiple g other.0.parts) (sized.variables.named place.0 n) place.2)

  forms_no_more : size us - us.terms ≤ size vs - vs.terms
  forms_no_more =
      no_more (size us - us.terms) (size vs - vs.terms) (λ k l. IsPlaced (us.terms + k) (vs.terms + l)) goes same
    where
      goes : (k : ℕ) → k < size us - us.terms → (l : ℕ) × (l < size vs - vs.terms) × IsPlaced (us.terms + k) (vs.terms + l)
      goes k h =
          let p = placed (us.terms + k) (omega arith) (omega arith) in
          let inside = p.1.inside in
          let long = p.1.long in
          (p.0 - vs.terms, (omega arith), subst (IsPlaced (us.terms + k)) (let e : p.0 ≡ vs.terms + (p.0 - vs.terms) = omega arith in e) p.1)

      same : (j k l : ℕ) → j < size us - us.terms → k < size us - us.terms → IsPlaced (us.terms + j) (vs.terms + l) → IsPlaced (us.terms + k) (vs.terms + l) → j ≡ k
      same j k l g h p q =
          let e : us.terms + j ≡ us.terms + k =
          are.once (us.terms + j) (us.terms + k) (omega arith) (omega arith)
          (form_once T U once p.row p.other q.row q.other p.match q.match (form us (us.terms + j)) (form us (us.terms + k)) (form vs (vs.terms + l))
          (are.normal (us.terms + j) (omega arith)) (are.normal (us.terms + k) (omega arith)) p.of q.of p.to q.to) in
          omega arith

  size_no_more : size us ≤ size vs
  size_no_more =
      let a = forms_no_more in
      let b = terms_grow in
      let c = are.terms_in in
      let d = sized.variables.terms_in in
      omega arith

  coefficient_no_more : largest_coefficient us.forms ≤ largest_coefficient vs.forms
  coefficient_no_more = coefficient_least (largest_coefficient vs.forms) us.forms (λ k l. by k l (cases_lt k us.terms))
    where
      by : (k : ℕ) → k < size us → (k < us.terms) ⊎ (us.terms ≤ k) → largest_part (form us k) ≤ largest_coefficient vs.forms
      by k l (inl m) =
          let one : largest_part ((k, pos 1) ∷ []) ≤ 1 = omega arith in
          let most = coefficient_some vs all sized in
          subst (λ (ps : Parts). largest_part ps ≤ largest_coefficient vs.forms) (sym (are.named k m)) (omega arith)
      by k l (inr m) =
          let p = placed k m l in
          let h = form_most T U once p.1.row p.1.other p.1.match (form us k) (form vs p.0) (are.normal k l) p.1.of p.1.to in
          let n = coefficient_most vs.forms p.0 in
          omega arith

  entry_no_more : entry_limit us ≤ entry_limit vs
  entry_no_more =
      let k : ℕ = smaller (size us - us.terms) us.terms in
      let n : ℕ = smaller (size vs - vs.terms) vs.terms in
      let less : k ≤ n = smaller_grows (size us - us.terms) us.terms (size vs - vs.terms) vs.terms forms_no_more terms_grow in
      let wide = limit_wider k (largest_coefficient us.forms) (largest_coefficient vs.forms) coefficient_no_more in
      let long = limit_grows k n (largest_coefficient vs.forms) (coefficient_some vs all sized) less in
      omega arith

  constant_no_more : largest_constant some ≤ largest_constant all
  constant_no_more =
      constants_most some (largest_constant all) (constant_some all)
      (λ r there.
      let m = matched r there in
      subst (λ n. n ≤ largest_constant all) (sym (constants_match m.2)) (constant_most all m.0 m.1))

  value_no_more : value_limit us some ≤ value_limit vs all
  value_no_more =
      mul_at_most (size us * entry_limit us) (largest_constant some) (size vs * entry_limit vs) (largest_constant all)
      (mul_at_most (size us) (entry_limit us) (size vs) (entry_limit vs) size_no_more entry_no_more) constant_no_more

  divisors_of : AreDivisorsOf some sized.multiple
  divisors_of row g there is =
      let m = matched row there in
      let d =
      divisor_in row.parts m.0.parts g (divides_in U T other_once m.0 row (swapped m.2) g) (none_in T U once row m.0 m.2) is in
      dvd_trans g d.2 (sized.least.multiple m.0 d.0 m.1 d.1)

  pub chain_no_more : chain_limit us ≤ chain_limit vs
  chain_no_more =
      mul_at_most (3 ^ us.terms) (choose (size us) us.terms) (3 ^ vs.terms) (choose (size vs) vs.terms)
      (pow-le-pow_right (omega arith) terms_grow)
      (choose_grows (size us) us.terms (size vs) vs.terms are.terms_in terms_grow sized.variables.terms_in forms_no_more)

  pub sizes_no_more : 1 ≤ us.terms → value_limit vs all * sized.multiple ≤ 2 ^ 40 → AreSmall some us
  sizes_no_more least most =
      let m = multiple_exists some sized.multiple sized.least.positive divisors_of in
      let divides : m.multiple ∣ sized.multiple = m.least.least sized.multiple divisors_of in
      let less : m.multiple ≤ sized.multiple = divisor_most m.multiple sized.multiple sized.least.positive divides in
      let product = mul_at_most (value_limit us some) m.multiple (value_limit vs all) sized.multiple value_no_more less in
      record {
        sized = record {
          variables = are;
          each = λ row there.
              let h = matched row there in
              (h.2.row.formed, subst (λ n. TermsBelow n row.parts) (sym us_terms) (row_below T h.2.left row h.2.row));
          some = least;
          multiple = m.multiple;
          least = m.least;
        };
        small = omega arith;
      }
