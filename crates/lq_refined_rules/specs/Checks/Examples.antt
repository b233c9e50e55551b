-- The implications of some programs, worked out by hand: numbers, functions and arrays.
use Rattle.std.specs.Prelude.{◌≡◌, ℕ, zero, suc, [], ◌∷◌, Some, None}
use Rattle.lq_base_names.specs.declared.operation.CompareOp.TheVariants as op
use Rattle.lq_refined_types.specs.Parts.Part.{Part, known, unknown, Parts}
use Rattle.lq_logic_predicates.specs.Formula.{Formula, falsity, compare, negation, conjunction, disjunction}
use Rattle.lq_logic_predicates.specs.Sum as s
use Rattle.lq_refined_types.specs.Types.Operations.{symbol_of}
use Rattle.lq_refined_types.specs.Types.Refined.{function, unit_type, array_with, type_variable, none, more}
use Rattle.lq_refined_types.specs.Subtyping.Implication.{of_assertion, of_index, of_divisor, of_length, of_argument, of_flow}
use Rattle.lq_text_tree.specs.MlType as ml
use Rattle.lq_refined_rules.specs.Checks.Basis.{Basis}
use Rattle.lq_refined_rules.specs.Checks.Binders.{binders, AllDiffer}
use Rattle.lq_refined_rules.specs.Checks.Listing.{implications_of}
use Rattle.lq_refined_rules.specs.Checks.Operation.{value}
use Rattle.lq_refined_rules.specs.Checks.Pure.{literal}
use Rattle.lq_refined_rules.specs.Checks.Sample.{at, the, variable, amount, bound, equals, is_sum, is_object, part, for_value, for_name, int_of, implies, basis, basis_with, alone, and_with}
use Rattle.lq_refined_rules.specs.Checks.Tree as t
use Rattle.lq_refined_rules.specs.Checks.Typing.{Points, AreTemplates, HasProgram}
use Rattle.lq_refined_rules.specs.Checks.Tree.{Block, Program, pure, fun, if_else, call, make, fetch, store, divide, remainder, assert, assert_false, read, last, binding, no_items, define, define_recursive, run_unit}

-- ---- let rec f n = if n <= 0 then 0 else 1 + f (n - 1) let () = assert (0 <= f 1), with f, n and two made names as 10 to 13

-- f has the argument's unknown 0 and the result's unknown 1, which may speak of n
abbrev pub sample_basis : Basis
sample_basis = basis (alone ∷ and_with (symbol_of 11) ∷ []) (function (Some 11) (int_of 0) (int_of 1) ∷ [])

abbrev pub sample_body : Block
sample_body =
    last (at 1)
    (if_else 1 (t.compare op.Le (variable 11) (amount 0)) (last (at 2) (pure (amount 0)))
    (binding 12 (at 3) (call (variable 10) (t.subtract (variable 11) (amount 1))) (last (at 4) (pure (t.add (amount 1) (variable 12))))))

abbrev pub sample_program : Program
sample_program =
    define_recursive 10 0 11 sample_body
    (run_unit
    (binding 13 (at 5) (call (variable 10) (amount 1)) (last (at 6) (assert (t.compare op.Le (amount 0) (variable 13)))))
    no_items)

-- n as its unknown has it, n at most 0, and a result of f as its unknown has it
abbrev pub sample_n : Part
sample_n = unknown 0 (for_value (bound 11) ∷ [])

abbrev pub sample_test : Formula
sample_test = compare op.Le (bound 11) (literal 0)

abbrev pub sample_result : s.Sum → ℕ → Part
sample_result a x = unknown 1 (for_name 11 a ∷ for_value (bound x) ∷ [])

-- four flows and one demand
abbrev pub SampleExample : Type 0
SampleExample =
    implications_of sample_basis [] sample_program
    ≡ implies (sample_n ∷ known sample_test ∷ []) (is_sum (literal 0) ∷ []) (part 1) 2 of_flow
    ∷ implies (sample_n ∷ known (negation sample_test) ∷ []) (is_sum (s.sub (bound 11) (literal 1)) ∷ []) (part 0) 3 of_argument
    ∷ implies (sample_n ∷ known (negation sample_test) ∷ sample_result (s.sub (bound 11) (literal 1)) 12 ∷ [])
    (is_sum (s.add (literal 1) (bound 12)) ∷ []) (part 1) 4 of_flow
    ∷ implies [] (is_sum (literal 1) ∷ []) (part 0) 5 of_argument
    ∷ implies (sample_result (literal 1) 13 ∷ []) [] (known (compare op.Le (literal 0) (bound 13))) 6 of_assertion ∷ []

-- the premises of the laws can be met: it is simply typed, its binders differ, and the templates have the simple types of their points
abbrev pub sample_type : ℕ → ml.MlType
sample_type zero = ml.arrow ml.int ml.int
sample_type (suc p) = ml.unit

abbrev pub sample_points : Points
sample_points = record { point = sample_type; type_arguments = λ i. ml.no_types }

abbrev pub TypedExample : Type 0
TypedExample =
    AreTemplates sample_basis sample_points × HasProgram sample_basis sample_points [] sample_program × AllDiffer (binders sample_program)

-- ---- let x = read_int () let () = assert (x <= x + 1), with x as 10: a flow and a demand

abbrev pub ReadExample : Type 0
ReadExample =
    implications_of (basis (alone ∷ []) (int_of 0 ∷ [])) []
    (define 10 (at 1) 0 (last (at 2) (read t.unit))
    (run_unit (last (at 3) (assert (t.compare op.Le (variable 10) (t.add (variable 10) (amount 1))))) no_items))
    ≡ implies [] [] (part 0) 1 of_flow
    ∷ implies [] [] (known (compare op.Le (bound 10) (s.add (bound 10) (literal 1)))) 3 of_assertion ∷ []

-- ---- let a = Array.make 3 1 let f b = b.(0) <- 0 let () = f a let () = assert (a.(0) > 0), with a, f, b and a made name as 10 to 13

-- the array that is made has elements of the unknown 0, a the unknowns 1 and 2, b the unknowns 3 and 4, which may speak of a
abbrev pub alias_basis : Basis
alias_basis =
    basis (alone ∷ alone ∷ alone ∷ and_with (symbol_of 10) ∷ and_with (symbol_of 10) ∷ [])
    (int_of 0 ∷ array_with (int_of 1) (part 2 ∷ []) ∷ function (Some 12) (array_with (int_of 3) (part 4 ∷ [])) unit_type ∷ [])

abbrev pub alias_program : Program
alias_program =
    define 10 (at 1) 1 (last (at 2) (make 0 (amount 3) (amount 1)))
    (define 11 (at 3) 2 (last (at 4) (fun 2 12 (last (at 5) (store (the 12) (amount 0) (amount 0)))))
    (run_unit (last (at 6) (call (variable 11) (variable 10)))
    (run_unit (binding 13 (at 7) (fetch (the 10) (amount 0)) (last (at 8) (assert (t.compare op.Gt (variable 13) (amount 0)))))
    no_items)))

abbrev pub alias_length : Part
alias_length = known (equals (s.len (bound 10)) (literal 3))

abbrev pub alias_in_range : ℕ → Part
alias_in_range x =
    known (conjunction (compare op.Le (literal 0) (literal 0)) (compare op.Lt (literal 0) (s.len (bound x))))

-- the demands are a length, two indexes and an assertion; the elements of a go both ways, into its template and into the argument of f
abbrev pub AliasExample : Type 0
AliasExample =
    implications_of alias_basis [] alias_program
    ≡ implies [] [] (known (compare op.Le (literal 0) (literal 3))) 2 of_length
    ∷ implies [] (is_sum (literal 1) ∷ []) (part 0) 2 of_argument
    ∷ implies [] (known (equals (s.len value) (literal 3)) ∷ []) (part 2) 1 of_flow
    ∷ implies [] (part 0 ∷ []) (part 1) 1 of_flow
    ∷ implies [] (part 1 ∷ []) (part 0) 1 of_flow
    ∷ implies (alias_length ∷ unknown 4 (for_value (bound 12) ∷ []) ∷ []) [] (alias_in_range 12) 5 of_index
    ∷ implies (alias_length ∷ unknown 4 (for_value (bound 12) ∷ []) ∷ []) (is_sum (literal 0) ∷ []) (part 3) 5 of_argument
    ∷ implies (alias_length ∷ []) (is_object (bound 10) ∷ []) (part 4) 6 of_argument
    ∷ implies (alias_length ∷ []) (part 0 ∷ []) (part 3) 6 of_argument
    ∷ implies (alias_length ∷ []) (part 3 ∷ []) (part 0) 6 of_argument
    ∷ implies (alias_length ∷ []) [] (alias_in_range 10) 7 of_index
    ∷ implies (alias_length ∷ unknown 0 (for_value (bound 13) ∷ []) ∷ []) [] (known (compare op.Gt (bound 13) (literal 0))) 8 of_assertion
    ∷ []

-- ---- let n = read_int () let m = if 0 <= n then n else -n, with n and m as 10 and 11

-- the branches are against the template of the `if`, with the unknown 1, which may speak of n, and this is against that of m
abbrev pub IfExample : Type 0
IfExample =
    let test : Formula = compare op.Le (literal 0) (bound 10) in
    implications_of (basis (alone ∷ and_with (symbol_of 10) ∷ and_with (symbol_of 10) ∷ []) (int_of 0 ∷ int_of 1 ∷ int_of 2 ∷ [])) []
    (define 10 (at 1) 0 (last (at 2) (read t.unit))
    (define 11 (at 3) 2
    (last (at 4)
    (if_else 1 (t.compare op.Le (amount 0) (variable 10)) (last (at 5) (pure (variable 10)))
    (last (at 6) (pure (t.negated (variable 10))))))
    no_items))
    ≡ implies [] [] (part 0) 1 of_flow
    ∷ implies (known test ∷ []) (is_sum (bound 10) ∷ []) (part 1) 5 of_flow
    ∷ implies (known (negation test) ∷ []) (is_sum (s.neg (bound 10)) ∷ []) (part 1) 6 of_flow
    ∷ implies [] (part 1 ∷ []) (part 2) 3 of_flow ∷ []

-- ---- let f x = x / 2 and let f x = x mod 2, with x as 11

abbrev pub half_fact : Formula
half_fact =
    let twice = s.mul (literal 2) value in
    disjunction
    (conjunction (conjunction (compare op.Le (literal 0) (bound 11)) (compare op.Le twice (bound 11)))
    (compare op.Le (bound 11) (s.add twice (literal 1))))
    (conjunction (conjunction (compare op.Lt (bound 11) (literal 0)) (compare op.Le (bound 11) twice))
    (compare op.Le twice (s.add (bound 11) (literal 1))))

abbrev pub numbers_basis : Basis
numbers_basis = basis (alone ∷ and_with (symbol_of 11) ∷ []) (function (Some 11) (int_of 0) (int_of 1) ∷ [])

abbrev pub number_function : Block → Program
number_function b = define 10 (at 1) 0 (last (at 2) (fun 0 11 b)) no_items

abbrev pub of_x : Parts
of_x = unknown 0 (for_value (bound 11) ∷ []) ∷ []

abbrev pub DivideExample : Type 0
DivideExample =
    implications_of numbers_basis [] (number_function (last (at 3) (divide (variable 11) (amount 2))))
    ≡ implies of_x [] (known (compare op.Ne (literal 2) (literal 0))) 3 of_divisor
    ∷ implies of_x (is_sum (s.div (bound 11) (literal 2)) ∷ known half_fact ∷ []) (part 1) 3 of_flow ∷ []

abbrev pub RemainderExample : Type 0
RemainderExample =
    implications_of numbers_basis [] (number_function (last (at 3) (remainder (variable 11) (amount 2))))
    ≡ implies of_x [] (known (compare op.Ne (literal 2) (literal 0))) 3 of_divisor
    ∷ implies of_x
    (is_sum (s.rem (bound 11) (literal 2))
    ∷ known (disjunction
    (disjunction (compare op.Lt (bound 11) (literal 0)) (compare op.Lt (literal 2) (literal 1)))
    (conjunction (compare op.Le (literal 0) value) (compare op.Lt value (literal 2)))) ∷ [])
    (part 1) 3 of_flow ∷ []

-- ---- let f x = assert false: the demand `false`, and the unknown of its template, the point 1, flows into the result

abbrev pub AssertFalseExample : Type 0
AssertFalseExample =
    implications_of
    (basis (alone ∷ and_with (symbol_of 11) ∷ and_with (symbol_of 11) ∷ []) (function (Some 11) (int_of 0) (int_of 1) ∷ int_of 2 ∷ [])) []
    (number_function (last (at 3) (assert_false 1)))
    ≡ implies of_x [] (known falsity) 3 of_assertion
    ∷ implies of_x (part 2 ∷ []) (part 1) 3 of_flow ∷ []

-- ---- let id x = x let a = id 3, with id, x and a as 10 to 12: the use of id has `int` with the unknown 0 for its type variable

abbrev pub PolymorphicExample : Type 0
PolymorphicExample =
    implications_of
    (basis_with (alone ∷ alone ∷ []) (function (Some 11) (type_variable 0) (type_variable 0) ∷ int_of 1 ∷ []) (more (int_of 0) none)) []
    (define 10 (at 1) 0 (last (at 2) (fun 0 11 (last (at 3) (pure (variable 11)))))
    (define 12 (at 4) 1 (last (at 5) (call (t.use_of record { name = 10; type_arguments = Some 0 }) (amount 3))) no_items))
    ≡ implies [] (is_sum (literal 3) ∷ []) (part 0) 5 of_argument ∷ implies [] (part 0 ∷ []) (part 1) 4 of_flow ∷ []

-- ---- let f g = g 1 let h x = x let a = f h, with f, g, h, x and a as 10 to 14

-- g has the unknowns 0 and 1, the result of f has 2, h has 3 and 4, the second of which may speak of x, and a has 5. The argument of g goes
-- into that of h first, and then the result of h, with its argument's twin, into that of g.
abbrev pub FunctionExample : Type 0
FunctionExample =
    implications_of
    (basis (alone ∷ alone ∷ alone ∷ alone ∷ and_with (symbol_of 13) ∷ alone ∷ [])
    (function (Some 11) (function None (int_of 0) (int_of 1)) (int_of 2) ∷ function (Some 13) (int_of 3) (int_of 4) ∷ int_of 5 ∷ [])) []
    (define 10 (at 1) 0 (last (at 2) (fun 0 11 (last (at 3) (call (variable 11) (amount 1)))))
    (define 12 (at 4) 1 (last (at 5) (fun 1 13 (last (at 6) (pure (variable 13)))))
    (define 14 (at 7) 2 (last (at 8) (call (variable 10) (variable 12))) no_items)))
    ≡ implies [] (is_sum (literal 1) ∷ []) (part 0) 3 of_argument
    ∷ implies [] (part 1 ∷ []) (part 2) 3 of_flow
    ∷ implies (unknown 3 (for_value (bound 13) ∷ []) ∷ []) (is_sum (bound 13) ∷ []) (part 4) 6 of_flow
    ∷ implies [] (part 0 ∷ []) (part 3) 8 of_argument
    ∷ implies (unknown 0 (for_value (bound 2147483661) ∷ []) ∷ []) (unknown 4 (for_name 13 (bound 2147483661) ∷ []) ∷ []) (part 1) 8
    of_argument
    ∷ implies [] (part 2 ∷ []) (part 5) 7 of_flow ∷ []
