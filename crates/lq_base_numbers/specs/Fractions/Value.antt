-- What a fraction is: its numerator and its denominator in lowest terms, and the rational that they make.
use Rattle.std.specs.Prelude.{◌≡◌, ℕ, ℤ, ◌<◌, ◌^◌, unsigned_abs, refl}
use Rattle.std.proofs.Common.{sym}
use Rattle.std.proofs.Props.{props}
use Rattle.std.proofs.Math.Nat.{∣_prop}
use std.HLevel.{prop→path_p}
use Rattle.lq_base_numbers.specs.Rationals.Coprime.{Coprime}
use Rattle.lq_base_numbers.specs.Rationals.LowestTerms.{IsLowest, lowest_terms_once}
use Rattle.lq_base_numbers.specs.Rationals.Rational.{ℚ, ratio}
use Rattle.lq_base_numbers.specs.declared.fractions.frac.Frac.{Frac}

abbrev pub numer_of : Frac → ℤ
numer_of f = f.numer

abbrev pub denom_of : Frac → ℕ
denom_of f = f.denom

abbrev pub value_of : Frac → ℚ
value_of f = ratio f.numer f.denom

-- what every fraction keeps
pub lowest_of : (f : Frac) → IsLowest (value_of f) (numer_of f) (denom_of f)
lowest_of f = record { positive = f.positive; lowest = f.lowest; same = refl }

pub small_of : (f : Frac) → denom_of f < 2 ^ 127
small_of f = f.small

-- one value, one fraction
pub parts_once : (f g : Frac) → value_of f ≡ value_of g → (numer_of f ≡ numer_of g) × (denom_of f ≡ denom_of g)
parts_once f g e =
    lowest_terms_once (value_of f) f.numer g.numer f.denom g.denom (lowest_of f) (record { positive = g.positive; lowest = g.lowest; same = sym e })

pub fraction_once : (f g : Frac) → value_of f ≡ value_of g → f ≡ g
fraction_once f g e =
    let p = parts_once f g e in
    λ i. record {
      numer = p.0 i;
      denom = p.1 i;
      positive = prop→path_p (λ j. 0 < p.1 j) (hlevel (props)) f.positive g.positive i;
      small = prop→path_p (λ j. p.1 j < 2 ^ 127) (hlevel (props)) f.small g.small i;
      lowest = prop→path_p (λ j. Coprime (unsigned_abs (p.0 j)) (p.1 j)) (hlevel (props, ∣_prop)) f.lowest g.lowest i;
    }
