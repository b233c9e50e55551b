-- When an operation on fractions has no result within 128 bits.
use Rattle.lq_base_numbers.specs.Rationals.NumberForms.{HasNoForm, HasNoSumForm, HasNoDifferenceForm}
use Rattle.lq_base_numbers.specs.Rationals.Rational.{◌*ℚ◌, neg_ℚ}
use Rattle.lq_base_numbers.specs.Rationals.RationalQuotient.{◌/ℚ◌}
use Rattle.lq_base_numbers.specs.declared.fractions.frac.Frac.{Frac}
use Rattle.lq_base_numbers.specs.declared.fractions.past.NumOp.{NumOp}
use Rattle.lq_base_numbers.specs.declared.fractions.past.NumOp.TheVariants.{Add, Sub, Mul, Div, Neg}
use Rattle.lq_base_numbers.specs.declared.fractions.past.NumberPast.{NumberPast}
use Rattle.lq_base_numbers.specs.Fractions.Value.{value_of, numer_of, denom_of}

-- over the least common multiple for sums and differences, and in lowest terms for the others
abbrev pub IsPastBy : NumOp → Frac → Frac → Type 0
IsPastBy Add f g = HasNoSumForm (numer_of f) (numer_of g) (denom_of f) (denom_of g)
IsPastBy Sub f g = HasNoDifferenceForm (numer_of f) (numer_of g) (denom_of f) (denom_of g)
IsPastBy Mul f g = HasNoForm (value_of f *ℚ value_of g)
IsPastBy Div f g = HasNoForm (value_of f /ℚ value_of g)
IsPastBy Neg f g = HasNoForm (neg_ℚ (value_of f))

abbrev pub IsPast : NumberPast → Type 0
IsPast e = IsPastBy e.op e.left e.right
