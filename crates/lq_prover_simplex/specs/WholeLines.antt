-- Linear combinations as whole numbers over one denominator, and the fractions that they stand for.
use Rattle.std.proofs.Common.{◌≡◌, ◌≢◌, ℕ, zero, suc, pos, ◌+◌, ◌*◌, ◌<◌, ◌≤◌, ◌^◌, ◌==◌, Bool, false, arith, sym, ap, subst, ◌∙◌, unsigned_abs, List, [], ◌∷◌, ◌++◌, Option, Some, None, length, slice_get}
use Rattle.std.proofs.Math.IntN.{ℤ, ◌*ℤ◌}
use Rattle.std.proofs.Math.Nat.{dvd-mul_left}
use Rattle.std.proofs.lemmas.Int.{unsigned_abs-mul}
use Rattle.std.proofs.lemmas.Nat.Gcd.{le_of_dvd}
use Rattle.std.specs.Int.{◌∣◌}
use Rattle.lq_base_numbers.specs.Rationals.Coprime.{Coprime_swap, euclid}
use Rattle.lq_base_numbers.specs.Rationals.LowestTerms.{IsLowest, lowest_terms_of}
use Rattle.lq_base_numbers.specs.Rationals.Rational.{ℚ, ratio, ◌*ℚ◌}
use Rattle.lq_base_numbers.specs.Rationals.RationalOrder.{cross_from_ratio}
use Rattle.lq_base_numbers.specs.declared.fractions.frac.Frac.{Frac}
use Rattle.lq_base_numbers.specs.Fractions.Value.{value_of, denom_of}
use Rattle.lq_prover_simplex.specs.declared.line.Entry.{Entry}
use Rattle.lq_prover_simplex.specs.declared.line.Kept.{Kept}
use Rattle.lq_prover_simplex.specs.declared.line.Kept.TheVariants.{Whole, Fractions}
use Rattle.lq_prover_simplex.specs.declared.whole.Part.{Part}
use Rattle.lq_prover_simplex.specs.declared.whole.WholeLine.{WholeLine}
use Rattle.lq_prover_simplex.specs.declared.whole.Scale.{Scale}

-- the denominator in lowest terms is no greater
still_small : (n m : ℤ) (d e : ℕ) → 0 < d → IsLowest (ratio n d) m e → d < 2 ^ 127 → e < 2 ^ 127
still_small n m d e positive low small =
    let cross : m *ℤ pos d ≡ n *ℤ pos e = cross_from_ratio m n e d low.positive positive low.same in
    let sizes : unsigned_abs m * d ≡ unsigned_abs n * e = sym (unsigned_abs-mul m (pos d)) ∙ ap unsigned_abs cross ∙ unsigned_abs-mul n (pos e) in
    let divides : e ∣ unsigned_abs m * d = subst (λ k. e ∣ k) (sym sizes) (dvd-mul_left e (unsigned_abs n)) in
    let least : e ≤ d = le_of_dvd positive (euclid e (unsigned_abs m) d (Coprime_swap (unsigned_abs m) e low.lowest) divides) in
    omega arith

-- n / d
pub fraction : (n : ℤ) (d : ℕ) → 0 < d → d < 2 ^ 127 → Frac
fraction n d positive small =
    let low = lowest_terms_of n d positive in
    record {
      numer = low.0;
      denom = low.1;
      positive = low.2.positive;
      small = still_small n low.0 d low.1 positive low.2 small;
      lowest = low.2.lowest;
    }

pub fraction_value : (n : ℤ) (d : ℕ) (positive : 0 < d) (small : d < 2 ^ 127) → value_of (fraction n d positive small) ≡ ratio n d
unfolding fraction
fraction_value n d positive small = (lowest_terms_of n d positive).2.same

-- the numerators over the denominator
abbrev pub entry_of : Part → (d : ℕ) → 0 < d → d < 2 ^ 127 → Entry
entry_of p d positive small = record { variable = p.variable; factor = fraction p.numerator d positive small }

abbrev pub entries_of : List Part → (d : ℕ) → 0 < d → d < 2 ^ 127 → List Entry
entries_of [] d positive small = []
entries_of (p ∷ ps) d positive small = entry_of p d positive small ∷ entries_of ps d positive small

abbrev pub whole_entries : WholeLine → List Entry
whole_entries w = entries_of w.parts.items w.denominator w.positive w.small

abbrev pub kept_entries : Kept → List Entry
kept_entries (Whole w) = whole_entries w
kept_entries (Fractions es) = es.items

-- one variable alone with its factor
abbrev pub only : ℕ → Frac → List Entry
only variable factor = (record { variable = variable; factor = factor }) ∷ []

-- one variable alone stands there, and it is this one
abbrev pub owns_part : List Part → ℕ → Bool
owns_part [] variable = false
owns_part (p ∷ []) variable = p.variable == variable
owns_part (p ∷ q ∷ ps) variable = false

-- the variable stands there with this numerator
abbrev pub HasPart : List Part → ℕ → ℤ → Type 0
HasPart ps variable n = (at : ℕ) × (slice_get ps at ≡ Some (record { variable = variable; numerator = n }))

-- the variable at a place, and 0 past the last
abbrev pub part_variable : List Part → ℕ → ℕ
part_variable [] i = 0
part_variable (p ∷ ps) zero = p.variable
part_variable (p ∷ ps) (suc i) = part_variable ps i

-- what stands at a place of this variable, and the place after it
abbrev pub IsPartHead : List Part → ℕ → ℕ → Option ℤ → ℕ → Type 0
IsPartHead ps at variable None next = (next ≡ at) × (at < length ps → part_variable ps at ≢ variable)
IsPartHead ps at variable (Some n) next = (next ≡ at + 1) × (slice_get ps at ≡ Some (record { variable = variable; numerator = n }))

-- a numerator, or 0
abbrev pub number_or_zero : Option ℤ → ℤ
number_or_zero None = pos 0
number_or_zero (Some n) = n

-- a part was added, or its numerator is 0
pub data IsPartPut (old : List Part) (variable : ℕ) (n : ℤ) (new : List Part) : Type 0 where
  pushed : n ≢ pos 0 → new ≡ old ++ (record { variable = variable; numerator = n }) ∷ [] → IsPartPut old variable n new
  skipped : n ≡ pos 0 → new ≡ old → IsPartPut old variable n new

-- over the one denominator, a left numerator is itself, and a right one so many times itself
pub record AreScales (own : ℕ) (times : ℚ) (other : ℕ) (s : Scale) : Type 0 where
  pub first : (n : ℤ) → ratio (s.left *ℤ n) s.denominator ≡ ratio n own
  pub second : (n : ℤ) → ratio (s.right *ℤ n) s.denominator ≡ times *ℚ ratio n other

-- it divides each numerator
abbrev pub DividesParts : ℕ → List Part → Type 0
DividesParts d [] = Unit {0}
DividesParts d (p ∷ ps) = (d ∣ unsigned_abs p.numerator) × DividesParts d ps

-- each numerator divided
abbrev pub AreDivided : ℕ → List Part → List Part → Type 0
AreDivided by [] [] = Unit {0}
AreDivided by [] (new ∷ news) = ⊥
AreDivided by (old ∷ olds) [] = ⊥
AreDivided by (old ∷ olds) (new ∷ news) = (new.variable ≡ old.variable) × (old.numerator ≡ new.numerator *ℤ pos by) × AreDivided by olds news

-- each denominator divides it
abbrev pub AllDivide : List Entry → ℕ → Type 0
AllDivide [] d = Unit {0}
AllDivide (e ∷ es) d = (denom_of e.factor ∣ d) × AllDivide es d
