-- The implications of some more programs, worked out by hand: numbers, truth values, calls and branches. Where nothing else is said f, g, x
-- and y are 10 to 13.
use Rattle.std.specs.Prelude.{◌≡◌, ℕ, true, [], ◌∷◌, Some, None}
use Rattle.lq_base_names.specs.declared.operation.CompareOp.TheVariants as op
use Rattle.lq_refined_types.specs.Parts.Part.{Part, known, unknown}
use Rattle.lq_refined_types.specs.Parts.Substitution.{Swap, swap, of_formula}
use Rattle.lq_logic_predicates.specs.Formula.{Formula, truth, flag, compare, negation, disjunction, equivalence}
use Rattle.lq_logic_predicates.specs.Sum as s
use Rattle.lq_logic_predicates.specs.declared.symbol.Symbol.TheVariants.{Value}
use Rattle.lq_refined_types.specs.Types.Operations.{symbol_of}
use Rattle.lq_refined_types.specs.Types.Refined.{Refined, int_with, bool_with, unit_type, function}
use Rattle.lq_refined_types.specs.Subtyping.Implication.{of_assertion, of_divisor, of_argument, of_flow}
use Rattle.lq_refined_rules.specs.Checks.Listing.{implications_of}
use Rattle.lq_refined_rules.specs.Checks.Operation.{value}
use Rattle.lq_refined_rules.specs.Checks.Pure.{literal}
use Rattle.lq_refined_rules.specs.Checks.Sample.{at, the, variable, amount, bound, equals, is_sum, part, for_value, for_name, int_of, implies, basis, alone, and_with}
use Rattle.lq_refined_rules.specs.Checks.Tree as t
use Rattle.lq_refined_rules.specs.Checks.Tree.{Block, Program, pattern_any, no_arms, arm, pure, fun, if_else, match_on, call, divide, assert, read, print, last, binding, no_items, define, run_unit, run_any}

-- `bool` with an unknown; a predicate for `v`, and for a variable
abbrev pub bool_of : ℕ → Refined
bool_of u = bool_with (part u ∷ [])

abbrev pub truth_for_value : Formula → Swap
truth_for_value p = swap Value (of_formula p)

abbrev pub truth_for_name : ℕ → Formula → Swap
truth_for_name x p = swap (symbol_of x) (of_formula p)

abbrev pub x_function : Block → Program → Program
x_function b rest = define 10 (at 1) 0 (last (at 2) (fun 0 12 b)) rest

-- what is known of x, where it is a number and where it is a truth value
abbrev pub of_x : Part
of_x = unknown 0 (for_value (bound 12) ∷ [])

abbrev pub of_flag_x : Part
of_flag_x = unknown 0 (truth_for_value (flag (symbol_of 12)) ∷ [])

-- let x = 1 + 2 * 3
abbrev pub SumExample : Type 0
SumExample =
    implications_of (basis (alone ∷ []) (int_of 0 ∷ [])) []
    (define 12 (at 1) 0 (last (at 2) (pure (t.add (amount 1) (t.multiply (amount 2) (amount 3))))) no_items)
    ≡ implies [] (is_sum (s.add (literal 1) (s.mul (literal 2) (literal 3))) ∷ []) (part 0) 1 of_flow ∷ []

-- let f x y = x + y let g = f 1: the result of the call is a function of y with 1 for x, and y's twin is the name of its argument
abbrev pub PartialCallExample : Type 0
PartialCallExample =
    let x = symbol_of 12 in
    let two = function (Some 12) (int_of 0) (function (Some 13) (int_of 1) (int_of 2)) in
    implications_of
    (basis (alone ∷ and_with x ∷ (Value ∷ x ∷ symbol_of 13 ∷ []) ∷ alone ∷ alone ∷ []) (two ∷ function None (int_of 3) (int_of 4) ∷ [])) []
    (x_function (last (at 3) (fun 9 13 (last (at 4) (pure (t.add (variable 12) (variable 13))))))
    (define 11 (at 5) 1 (last (at 6) (call (variable 10) (amount 1))) no_items))
    ≡ implies (of_x ∷ unknown 1 (for_value (bound 13) ∷ []) ∷ []) (is_sum (s.add (bound 12) (bound 13)) ∷ []) (part 2) 4 of_flow
    ∷ implies [] (is_sum (literal 1) ∷ []) (part 0) 6 of_argument
    ∷ implies [] (part 3 ∷ []) (unknown 1 (for_name 12 (literal 1) ∷ [])) 5 of_flow
    ∷ implies (unknown 3 (for_value (bound 2147483661) ∷ []) ∷ [])
    (unknown 2 (for_name 13 (bound 2147483661) ∷ for_name 12 (literal 1) ∷ []) ∷ []) (part 4) 5 of_flow ∷ []

-- let f x = if x < 0 then () else assert (0 <= x): the demand under the negated guard
abbrev pub GuardExample : Type 0
GuardExample =
    implications_of (basis (alone ∷ []) (function (Some 12) (int_of 0) unit_type ∷ [])) []
    (x_function
    (last (at 3)
    (if_else 9 (t.compare op.Lt (variable 12) (amount 0)) (last (at 4) (pure t.unit))
    (last (at 5) (assert (t.compare op.Le (amount 0) (variable 12))))))
    no_items)
    ≡ implies (of_x ∷ known (negation (compare op.Lt (bound 12) (literal 0))) ∷ []) [] (known (compare op.Le (literal 0) (bound 12))) 5
    of_assertion ∷ []

-- let f x = if x <= 0 then if x < 0 then 1 else 2 else 3: guards in their order
abbrev pub NestedGuardExample : Type 0
NestedGuardExample =
    let outer = compare op.Le (bound 12) (literal 0) in
    let inner = compare op.Lt (bound 12) (literal 0) in
    implications_of (basis (alone ∷ and_with (symbol_of 12) ∷ []) (function (Some 12) (int_of 0) (int_of 1) ∷ [])) []
    (x_function
    (last (at 3)
    (if_else 9 (t.compare op.Le (variable 12) (amount 0))
    (last (at 4)
    (if_else 9 (t.compare op.Lt (variable 12) (amount 0)) (last (at 5) (pure (amount 1))) (last (at 6) (pure (amount 2)))))
    (last (at 7) (pure (amount 3)))))
    no_items)
    ≡ implies (of_x ∷ known outer ∷ known inner ∷ []) (is_sum (literal 1) ∷ []) (part 1) 5 of_flow
    ∷ implies (of_x ∷ known outer ∷ known (negation inner) ∷ []) (is_sum (literal 2) ∷ []) (part 1) 6 of_flow
    ∷ implies (of_x ∷ known (negation outer) ∷ []) (is_sum (literal 3) ∷ []) (part 1) 7 of_flow ∷ []

-- let f x = assert x, where x is a truth value
abbrev pub AssertVariableExample : Type 0
AssertVariableExample =
    implications_of (basis (alone ∷ []) (function (Some 12) (bool_of 0) unit_type ∷ [])) []
    (x_function (last (at 3) (assert (variable 12))) no_items)
    ≡ implies (of_flag_x ∷ []) [] (known (flag (symbol_of 12))) 3 of_assertion ∷ []

-- let f x = x let b = f (true || 1 = 2), where x is a truth value: a predicate for x in the result
abbrev pub TruthCallExample : Type 0
TruthCallExample =
    let given = disjunction truth (compare op.Eq (literal 1) (literal 2)) in
    implications_of
    (basis (alone ∷ and_with (symbol_of 12) ∷ alone ∷ []) (function (Some 12) (bool_of 0) (bool_of 1) ∷ bool_of 2 ∷ [])) []
    (x_function (last (at 3) (pure (variable 12)))
    (define 11 (at 4) 1 (last (at 5) (call (variable 10) (t.or_of (t.flag true) (t.compare op.Eq (amount 1) (amount 2))))) no_items))
    ≡ implies (of_flag_x ∷ []) (known (equivalence (flag Value) (flag (symbol_of 12))) ∷ []) (part 1) 3 of_flow
    ∷ implies [] (known (equivalence (flag Value) given) ∷ []) (part 0) 5 of_argument
    ∷ implies [] (unknown 1 (truth_for_name 12 given ∷ []) ∷ []) (part 2) 4 of_flow ∷ []

-- let f x = if x then 1 else 0, where x is a truth value
abbrev pub TruthGuardExample : Type 0
TruthGuardExample =
    implications_of (basis (alone ∷ and_with (symbol_of 12) ∷ []) (function (Some 12) (bool_of 0) (int_of 1) ∷ [])) []
    (x_function (last (at 3) (if_else 9 (variable 12) (last (at 4) (pure (amount 1))) (last (at 5) (pure (amount 0))))) no_items)
    ≡ implies (of_flag_x ∷ known (flag (symbol_of 12)) ∷ []) (is_sum (literal 1) ∷ []) (part 1) 4 of_flow
    ∷ implies (of_flag_x ∷ known (negation (flag (symbol_of 12))) ∷ []) (is_sum (literal 0) ∷ []) (part 1) 5 of_flow ∷ []

-- let f x = 1 / x: nothing more is known of a quotient by a variable
abbrev pub QuotientExample : Type 0
QuotientExample =
    implications_of (basis (alone ∷ and_with (symbol_of 12) ∷ []) (function (Some 12) (int_of 0) (int_of 1) ∷ [])) []
    (x_function (last (at 3) (divide (amount 1) (variable 12))) no_items)
    ≡ implies (of_x ∷ []) [] (known (compare op.Ne (bound 12) (literal 0))) 3 of_divisor
    ∷ implies (of_x ∷ []) (is_sum (s.div (literal 1) (bound 12)) ∷ []) (part 1) 3 of_flow ∷ []

-- let f x = let y = x / 0 in print_int y: no literal is known to differ from 0
abbrev pub ZeroDivisorExample : Type 0
ZeroDivisorExample =
    implications_of (basis (alone ∷ []) (function (Some 12) (int_of 0) unit_type ∷ [])) []
    (x_function (binding 13 (at 3) (divide (variable 12) (amount 0)) (last (at 4) (print (variable 13)))) no_items)
    ≡ implies (of_x ∷ []) [] (known (compare op.Ne (literal 0) (literal 0))) 3 of_divisor ∷ []

-- let f x = match x with _ -> 1, on a number
abbrev pub AnyExample : Type 0
AnyExample =
    implications_of (basis (alone ∷ and_with (symbol_of 12) ∷ []) (function (Some 12) (int_of 0) (int_of 1) ∷ [])) []
    (x_function (last (at 3) (match_on 9 (the 12) (arm pattern_any (last (at 4) (pure (amount 1))) no_arms))) no_items)
    ≡ implies (of_x ∷ []) (is_sum (literal 1) ∷ []) (part 1) 4 of_flow ∷ []

-- a template's parts that are known, `v <> 0` and `true`: the first is a goal, and the second gives no implication
abbrev pub KnownPartExample : Type 0
KnownPartExample =
    let nonzero = compare op.Ne value (literal 0) in
    implications_of (basis [] (int_with (known nonzero ∷ known truth ∷ []) ∷ [])) []
    (define 12 (at 1) 0 (last (at 2) (read t.unit)) no_items)
    ≡ implies [] [] (known nonzero) 1 of_flow ∷ []

-- let () = let x = read_int () in let y = x - 1 in assert (y < x): what a block binds is known from then on
abbrev pub KnownExample : Type 0
KnownExample =
    implications_of (basis [] []) []
    (run_unit
    (binding 12 (at 1) (read t.unit)
    (binding 13 (at 2) (pure (t.subtract (variable 12) (amount 1))) (last (at 3) (assert (t.compare op.Lt (variable 13) (variable 12))))))
    no_items)
    ≡ implies (known (equals (bound 13) (s.sub (bound 12) (literal 1))) ∷ []) [] (known (compare op.Lt (bound 13) (bound 12))) 3
    of_assertion ∷ []

-- let () = let u = () in let x = read_int u in assert (x = x): of what `read_int` is given nothing is asked
abbrev pub ReadOfExample : Type 0
ReadOfExample =
    implications_of (basis [] []) []
    (run_unit
    (binding 12 (at 1) (pure t.unit)
    (binding 13 (at 2) (read (variable 12)) (last (at 3) (assert (t.compare op.Eq (variable 13) (variable 13))))))
    no_items)
    ≡ implies [] [] (known (equals (bound 13) (bound 13))) 3 of_assertion ∷ []

-- let _ = let x = 1 in x let () = assert true: what the block of `let _` binds isn't known behind it
abbrev pub OwnBlockExample : Type 0
OwnBlockExample =
    implications_of (basis [] []) []
    (run_any (binding 12 (at 1) (pure (amount 1)) (last (at 2) (pure (variable 12))))
    (run_unit (last (at 3) (assert (t.flag true))) no_items))
    ≡ implies [] [] (known truth) 3 of_assertion ∷ []

-- let x = let y = 1 in y let () = assert (x = y): what the block of a definition binds is
abbrev pub KeptNameExample : Type 0
KeptNameExample =
    implications_of (basis (alone ∷ []) (int_of 0 ∷ [])) []
    (define 12 (at 1) 0 (binding 13 (at 2) (pure (amount 1)) (last (at 3) (pure (variable 13))))
    (run_unit (last (at 4) (assert (t.compare op.Eq (variable 12) (variable 13)))) no_items))
    ≡ implies (known (equals (bound 13) (literal 1)) ∷ []) (is_sum (bound 13) ∷ []) (part 0) 1 of_flow
    ∷ implies (known (equals (bound 13) (literal 1)) ∷ known (equals (bound 12) (bound 13)) ∷ []) []
    (known (equals (bound 12) (bound 13))) 4 of_assertion ∷ []
