-- What measures are of the values of a program, by their equations. What is asked of no value, or of one of another kind, is 0.
use Rattle.std.specs.Prelude.{ℕ, ℤ, pos, ◌+ℤ◌, ◌-ℤ◌, ◌*ℤ◌, List, [], ◌∷◌, Option, Some, None, slice_get}
use Rattle.lq_meaning_steps.specs.Model.Core.{Value, v_whole, v_flag, v_unit, v_fun, v_rec, v_tuple, v_build, v_array, Values, no_values, more_values}
use Rattle.lq_base_names.specs.declared.operation.ArithOp.{ArithOp}
use Rattle.lq_base_names.specs.declared.operation.ArithOp.TheVariants as op
use Rattle.lq_logic_predicates.specs.Truth.{quotient, remainder}
use Rattle.lq_text_qualifiers.specs.Sorting.Sorted.{Variable, value, field_at, placeholder_at, Term, literal, variable, length_of, measured, operation, negative, Measure}

-- what a term reads of a value: the number that it is, its length, and each measure by its number
pub record Seen : Type 0 where
  pub number : ℤ
  pub length : ℤ
  pub measures : ℕ → ℤ

abbrev pub nothing_seen : Seen
nothing_seen = record { number = pos 0; length = pos 0; measures = λ i. pos 0 }

abbrev pub seen_or_nothing : Option Seen → Seen
seen_or_nothing None = nothing_seen
seen_or_nothing (Some s) = s

-- of what a variable of an equation stands for, where these are the fields
abbrev pub seen_by : List Seen → Variable → Seen
seen_by fs (field_at n) = seen_or_nothing (slice_get fs n)
seen_by fs value = nothing_seen
seen_by fs (placeholder_at n) = nothing_seen

abbrev pub result_of : ArithOp → ℤ → ℤ → ℤ
result_of op.Add x y = x +ℤ y
result_of op.Sub x y = x -ℤ y
result_of op.Mul x y = x *ℤ y
result_of op.Div x y = quotient x y
result_of op.Mod x y = remainder x y

abbrev pub number_of_term : List Seen → Term → ℤ
number_of_term fs (literal n) = n
number_of_term fs (variable x) = (seen_by fs x).number
number_of_term fs (length_of x) = (seen_by fs x).length
number_of_term fs (measured i x) = (seen_by fs x).measures i
number_of_term fs (operation o a b) = result_of o (number_of_term fs a) (number_of_term fs b)
number_of_term fs (negative a) = pos 0 -ℤ number_of_term fs a

abbrev pub number_by : List Seen → Option Term → ℤ
number_by fs None = pos 0
number_by fs (Some t) = number_of_term fs t

-- over measures, and the place of each constructor in its datatype's definition, from 0
module _ (ms : List Measure) (place : ℕ → ℕ) where
  -- of a value that the constructor makes of these fields
  abbrev pub made_by : ℕ → List Seen → Option Measure → ℤ
  made_by c fs None = pos 0
  made_by c fs (Some m) = number_by fs (slice_get m.terms (place c))

  abbrev mutual
    pub seen : Value → Seen
    seen (v_whole n) = record { number = n; length = pos 0; measures = λ i. pos 0 }
    seen (v_flag b) = nothing_seen
    seen v_unit = nothing_seen
    seen (v_fun q b) = nothing_seen
    seen (v_rec f q b) = nothing_seen
    seen (v_tuple vs) = nothing_seen
    seen (v_array r n) = record { number = pos 0; length = pos n; measures = λ i. pos 0 }
    seen (v_build c vs) = record { number = pos 0; length = pos 0; measures = λ i. made_by c (all_seen vs) (slice_get ms i) }

    pub all_seen : Values → List Seen
    all_seen no_values = []
    all_seen (more_values v vs) = seen v ∷ all_seen vs

  -- a measure, by its number, of a value
  abbrev pub measure_of : ℕ → Value → ℤ
  measure_of i v = (seen v).measures i
