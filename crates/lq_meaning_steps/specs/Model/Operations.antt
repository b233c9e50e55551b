-- What operations on values give.
use Rattle.std.specs.Prelude.{ℕ, zero, suc, ℤ, pos, negsuc, ◌+ℤ◌, ◌-ℤ◌, ◌*ℤ◌, int_div, int_rem, Bool, true, false, not, ◌==◌, if◌then◌else◌, List, [], ◌∷◌, ◌++◌, length, Option, Some, None, slice_get, slice_set}
use Rattle.std.specs.Ordering.{int_eq}
use Rattle.std.specs.Int.Signed.{lt_z}
use Rattle.lq_base_names.specs.declared.operation.CompareOp.{CompareOp}
use Rattle.lq_base_names.specs.declared.operation.CompareOp.TheVariants as test
use Rattle.lq_base_names.specs.declared.place.Place.{Place}
use Rattle.lq_meaning_steps.specs.declared.model.fault.FaultKind.{FaultKind}
use Rattle.lq_meaning_steps.specs.declared.model.fault.FaultKind.TheVariants.{AssertFailed, OutOfBounds, ZeroDivisor, NegativeLength}
use Rattle.lq_meaning_steps.specs.Model.Core.{Pattern, any, bind, nothing, tuple_of, build_of, Patterns, no_patterns, more_patterns, Operation, negate, invert, assert, length_of, print, read, Arithmetic, sum, difference, product, quotient, remainder, Binary, arithmetic, comparison, make, fetch, Ternary, store, Value, v_whole, v_flag, v_unit, v_tuple, v_build, v_array, Values, no_values, more_values, Pairs}

-- the arrays, what is left of the input, and the output so far
pub record World : Type 0 where
  pub arrays : List (List Value)
  pub input : List ℤ
  pub output : List ℤ

-- what an operation on values gives: a value and a world, a fault at a place, or the end of the input at a place
pub data Act : Type 0 where
  gives : Value → World → Act
  faults : FaultKind → Place → Act
  ends : Place → Act

-- a whole number, and no act on any other value
abbrev pub on_whole : Value → (ℤ → Option Act) → Option Act
on_whole (v_whole n) go = go n
on_whole _ go = None

-- arithmetic; numbers have no bound
abbrev pub arithmetic_act : Arithmetic → ℤ → ℤ → World → Act
-- `+`, `-`, `*`: the sum, the difference, the product
arithmetic_act sum m n w = gives (v_whole (m +ℤ n)) w
arithmetic_act difference m n w = gives (v_whole (m -ℤ n)) w
arithmetic_act product m n w = gives (v_whole (m *ℤ n)) w
-- `/`: the quotient rounded toward 0; a divisor 0 is the fault ZeroDivisor
arithmetic_act (quotient p) m n w = if int_eq n (pos 0) then faults ZeroDivisor p else gives (v_whole (int_div m n)) w
-- `mod`: the remainder, which has the dividend's sign or is 0; a divisor 0 is the fault ZeroDivisor
arithmetic_act (remainder p) m n w = if int_eq n (pos 0) then faults ZeroDivisor p else gives (v_whole (int_rem m n)) w

-- a comparison of two numbers: whether it is true
abbrev pub compares : CompareOp → ℤ → ℤ → Bool
-- `=`, `<>`
compares test.Eq m n = int_eq m n
compares test.Ne m n = not (int_eq m n)
-- `<`, and `<=`, which is no `<` the other way round
compares test.Lt m n = lt_z m n
compares test.Le m n = not (lt_z n m)
-- `>`, which is `<` the other way round, and `>=`, which is no `<`
compares test.Gt m n = lt_z n m
compares test.Ge m n = not (lt_z m n)

-- n times this value
abbrev pub copies : ℕ → Value → List Value
copies zero v = []
copies (suc n) v = v ∷ copies n v

-- `Array.make n v`
abbrev pub make_act : Place → ℤ → Value → World → Act
-- a length below 0 is the fault NegativeLength
make_act p (negsuc n) v w = faults NegativeLength p
-- else a new array behind the others, with v at each of its n indexes
make_act p (pos n) v w = gives (v_array (length w.arrays) n) (record w { arrays = w.arrays ++ copies n v ∷ [] })

-- What is done with the element at an index of an array. An index below 0, or not below the length, is the fault OutOfBounds.
abbrev pub on_element : Place → Option Value → (Value → Act) → Act
on_element p None go = faults OutOfBounds p
on_element p (Some v) go = go v

abbrev pub at_index : Place → List Value → ℤ → (ℕ → Value → Act) → Act
at_index p elements (negsuc i) go = faults OutOfBounds p
at_index p elements (pos i) go = on_element p (slice_get elements i) (go i)

-- the elements of an array, and no act on a value that is no array of the store
abbrev pub with_elements : Option (List Value) → (List Value → Option Act) → Option Act
with_elements None go = None
with_elements (Some elements) go = go elements

abbrev pub on_array : Value → World → (ℕ → List Value → Option Act) → Option Act
on_array (v_array r n) w go = with_elements (slice_get w.arrays r) (go r)
on_array _ w go = None

-- `a.(i)`: the element at i, or the fault OutOfBounds
abbrev pub fetch_act : Place → Value → Value → World → Option Act
fetch_act p a i w = on_array a w (λ r elements. on_whole i (λ k. Some (at_index p elements k (λ j v. gives v w))))

-- `a.(i) <- u`: unit, and the store with u at i of this array; or the fault OutOfBounds, and nothing is stored
abbrev pub store_act : Place → Value → Value → Value → World → Option Act
store_act p a i u w =
    on_array a w (λ r elements. on_whole i (λ k. Some (at_index p elements k (λ j v. gives v_unit (record w { arrays = slice_set w.arrays r (slice_set elements j u) })))))

-- the operations on two values
abbrev pub binary_act : Binary → Value → Value → World → Option Act
-- arithmetic on two numbers
binary_act (arithmetic o) x y w = on_whole x (λ m. on_whole y (λ n. Some (arithmetic_act o m n w)))
-- a comparison of two numbers: its truth value
binary_act (comparison o) x y w = on_whole x (λ m. on_whole y (λ n. Some (gives (v_flag (compares o m n)) w)))
-- `Array.make` on a number and any value
binary_act (make p) x v w = on_whole x (λ n. Some (make_act p n v w))
-- an array at a number
binary_act (fetch p) a i w = fetch_act p a i w

-- the operations on three values
abbrev pub ternary_act : Ternary → Value → Value → Value → World → Option Act
-- an array at a number, and any value
ternary_act (store p) a i u w = store_act p a i u w

-- `read_int ()`: the next number of the input, which is then gone from it; where none is left, the input has ended
abbrev pub read_act : Place → List ℤ → World → Act
read_act p [] w = ends p
read_act p (n ∷ ns) w = gives (v_whole n) (record w { input = ns })

-- `assert`: true gives unit, false is the fault AssertFailed
abbrev pub assert_act : Place → Bool → World → Act
assert_act p true w = gives v_unit w
assert_act p false w = faults AssertFailed p

-- the operations on one value
abbrev pub unary_act : Operation → Value → World → Option Act
-- unary minus: the negative of the number
unary_act negate (v_whole n) w = Some (gives (v_whole (pos 0 -ℤ n)) w)
-- `not`: the other truth value
unary_act invert (v_flag b) w = Some (gives (v_flag (not b)) w)
-- `assert` on a truth value
unary_act (assert p) (v_flag b) w = Some (assert_act p b w)
-- `Array.length`: the length that the reference has
unary_act length_of (v_array r n) w = Some (gives (v_whole (pos n)) w)
-- `print_int`: unit, and the number behind the output
unary_act print (v_whole n) w = Some (gives v_unit (record w { output = w.output ++ n ∷ [] }))
-- `read_int` on unit
unary_act (read p) v_unit w = Some (read_act p w.input w)
-- no act on a value of another kind
unary_act _ _ w = None

-- ---- patterns

abbrev pub both_pairs : Option Pairs → Option Pairs → Option Pairs
both_pairs None qs = None
both_pairs (Some ps) None = None
both_pairs (Some ps) (Some qs) = Some (ps ++ qs)

-- The values by which a pattern's variables are replaced, where the value fits it: a variable and `_` fit every value, `()` fits unit, a
-- tuple pattern a tuple whose components its parts fit, a constructor pattern a value of that constructor whose fields its parts fit.
abbrev mutual
  pub fits : Pattern → Value → Option Pairs
  fits any v = Some []
  fits (bind x) v = Some ((x, v) ∷ [])
  fits nothing v_unit = Some []
  fits nothing _ = None
  fits (tuple_of qs) (v_tuple vs) = fits_all qs vs
  fits (tuple_of qs) _ = None
  fits (build_of c qs) (v_build d vs) = if c == d then fits_all qs vs else None
  fits (build_of c qs) _ = None

  pub fits_all : Patterns → Values → Option Pairs
  fits_all no_patterns no_values = Some []
  fits_all (more_patterns q qs) (more_values v vs) = both_pairs (fits q v) (fits_all qs vs)
  fits_all _ _ = None
