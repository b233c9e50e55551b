-- What is known of quotients and remainders, by their parts.
use Rattle.std.specs.Prelude.{ℤ, [], ◌∷◌}
use Rattle.lq_refined_rules.specs.Checks.Operation.{quotient_facts, remainder_fact, value}
use Rattle.lq_refined_rules.specs.Checks.Pure.{literal}
use Rattle.lq_base_names.specs.declared.operation.CompareOp.TheVariants as op
use Rattle.lq_refined_types.specs.Parts.Part.{known, Parts}
use Rattle.lq_refined_templates.specs.declared.programs.block.Quotient.{Quotient}
use Rattle.lq_refined_templates.specs.declared.programs.block.Quotient.TheVariants as quotient
use Rattle.lq_logic_predicates.specs.Formula as f
use Rattle.lq_logic_predicates.specs.Sum as s

-- by which the product of the divisor and the quotient bounds the dividend, where this isn't below 0
abbrev pub least_upwards : s.Sum → ℤ → f.Formula
least_upwards x d = f.conjunction (f.compare op.Le (literal 0) x) (f.compare op.Le (s.mul (s.whole d) value) x)

abbrev pub upwards : s.Sum → ℤ → ℤ → f.Formula
upwards x d r = f.conjunction (least_upwards x d) (f.compare op.Le x (s.add (s.mul (s.whole d) value) (s.whole r)))

-- and where it is
abbrev pub most_downwards : s.Sum → ℤ → f.Formula
most_downwards x d = f.conjunction (f.compare op.Lt x (literal 0)) (f.compare op.Le x (s.mul (s.whole d) value))

abbrev pub downwards : s.Sum → ℤ → ℤ → f.Formula
downwards x d r = f.conjunction (most_downwards x d) (f.compare op.Le (s.mul (s.whole d) value) (s.add x (s.whole r)))

-- that nothing bounds a remainder, and what bounds it else
abbrev pub unbounded : s.Sum → s.Sum → f.Formula
unbounded x y = f.disjunction (f.compare op.Lt x (literal 0)) (f.compare op.Lt y (literal 1))

abbrev pub bounded : s.Sum → f.Formula
bounded y = f.conjunction (f.compare op.Le (literal 0) value) (f.compare op.Lt value y)

-- that the value is the quotient or the remainder
abbrev pub is_quotient : Quotient → s.Sum → s.Sum → f.Formula
is_quotient quotient.Div x y = f.compare op.Eq value (s.div x y)
is_quotient quotient.Mod x y = f.compare op.Eq value (s.rem x y)

abbrev pub quotient_parts : Quotient → s.Sum → s.Sum → Parts
quotient_parts quotient.Div x y = known (is_quotient quotient.Div x y) ∷ quotient_facts x y
quotient_parts quotient.Mod x y = known (is_quotient quotient.Mod x y) ∷ known (remainder_fact x y) ∷ []
