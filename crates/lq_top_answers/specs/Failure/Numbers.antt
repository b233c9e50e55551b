-- How fractions are written, and operations on them.
use Rattle.std.specs.Prelude.{ℕ, ℤ, ◌==◌, List, ◌++◌, codes, decimal, if◌then◌else◌}
use Rattle.std.specs.Fmt.{signed_decimal}
use Rattle.lq_base_numbers.specs.declared.fractions.frac.Frac.{Frac}
use Rattle.lq_base_numbers.specs.declared.fractions.past.NumOp.{NumOp}
use Rattle.lq_base_numbers.specs.declared.fractions.past.NumOp.TheVariants.{Add, Sub, Mul, Div, Neg}
use Rattle.lq_base_numbers.specs.declared.fractions.past.NumberPast.{NumberPast}
use Rattle.lq_base_numbers.specs.Fractions.Value.{numer_of, denom_of}

-- a whole number alone, else with its denominator
abbrev pub fraction_text : ℤ → ℕ → List ℕ
fraction_text n d = if d == 1 then signed_decimal n else signed_decimal n ++ codes "/" ++ decimal d

abbrev pub frac_text : Frac → List ℕ
frac_text f = fraction_text (numer_of f) (denom_of f)

-- an operation on two fractions, and a negation of one
abbrev pub operation_text : NumOp → List ℕ → List ℕ → List ℕ
operation_text Add left right = left ++ codes " + " ++ right
operation_text Sub left right = left ++ codes " - " ++ right
operation_text Mul left right = left ++ codes " * " ++ right
operation_text Div left right = left ++ codes " / " ++ right
operation_text Neg left right = codes "-" ++ left

abbrev pub past_text : NumberPast → List ℕ
past_text e = operation_text e.op (frac_text e.left) (frac_text e.right)
