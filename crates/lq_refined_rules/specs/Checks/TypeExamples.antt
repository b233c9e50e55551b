-- The implications of some more programs, worked out by hand: each case of subtyping, one in another, and more of datatypes and maps.
use Rattle.std.specs.Prelude.{◌≡◌, ℕ, true, [], ◌∷◌, ◌++◌, Some, None}
use Rattle.lq_base_names.specs.declared.operation.CompareOp.TheVariants as op
use Rattle.lq_refined_types.specs.Parts.Part.{Part, known, unknown, Parts}
use Rattle.lq_logic_predicates.specs.Formula.{truth, falsity, flag, compare, conjunction, equivalence, objects}
use Rattle.lq_logic_predicates.specs.Sum as s
use Rattle.lq_logic_predicates.specs.declared.symbol.Symbol.TheVariants.{Value, Position}
use Rattle.lq_refined_types.specs.Types.Operations.{symbol_of}
use Rattle.lq_refined_types.specs.Types.Refined.{Refined, bool_with, unit_type, function, tuple_of, array_with, data_with, map_with, type_variable, none, more}
use Rattle.lq_refined_types.specs.Subtyping.Implication.{of_index, of_length, of_case, of_argument, of_flow}
use Rattle.lq_refined_rules.specs.Checks.DataExamples.{list_basis, list_function, in_empty, in_filled, empty_arm, of_l}
use Rattle.lq_refined_rules.specs.Checks.Listing.{implications_of}
use Rattle.lq_refined_rules.specs.Checks.Operation.{value}
use Rattle.lq_refined_rules.specs.Checks.Pure.{literal}
use Rattle.lq_refined_rules.specs.Checks.Sample.{at, the, variable, amount, bound, field, size, equals, is_sum, is_object, part, for_value, for_name, int_of, list_of, implies, basis, basis_with, alone, and_with}
use Rattle.lq_refined_rules.specs.Checks.Tree as t
use Rattle.lq_refined_rules.specs.Checks.Tree.{Block, Program, pattern_any, pattern_build, no_arms, arm, pure, fun, match_on, call, tuple, build, make, fetch, map_empty, map_add, last, binding, no_items, define, run_unit}

abbrev pub two_of : Refined → Refined → Refined
two_of a b = tuple_of (more a (more b none))

-- an array of a type, and an `option` of one, with an unknown at the top
abbrev pub array_of : Refined → ℕ → Refined
array_of e u = array_with e (part u ∷ [])

abbrev pub option_with : Refined → Parts → Refined
option_with e p = data_with 5 (more e none) [] p

abbrev pub length_is : ℕ → ℕ → Part
length_is x n = known (equals (s.len (bound x)) (literal n))

-- ---- tuples

-- let p = (1, 2, 3): the third component where the first two are known
abbrev pub TripleExample : Type 0
TripleExample =
    implications_of
    (basis (alone ∷ and_with (Position 1) ∷ (Value ∷ Position 1 ∷ Position 2 ∷ []) ∷ [])
    (tuple_of (more (int_of 0) (more (int_of 1) (more (int_of 2) none))) ∷ []))
    [] (define 10 (at 1) 0 (last (at 2) (tuple (amount 1 ∷ amount 2 ∷ amount 3 ∷ []))) no_items)
    ≡ implies [] (is_sum (literal 1) ∷ []) (part 0) 1 of_flow
    ∷ implies (known (equals (field 1) (literal 1)) ∷ []) (is_sum (literal 2) ∷ []) (part 1) 1 of_flow
    ∷ implies (known (equals (field 1) (literal 1)) ∷ known (equals (field 2) (literal 2)) ∷ []) (is_sum (literal 3) ∷ []) (part 2) 1
    of_flow ∷ []

-- let p = (1, (2, 3)), with the made name of the inner tuple as 9: inside the second component the first isn't known as `#1`
abbrev pub NestedTupleExample : Type 0
NestedTupleExample =
    implications_of (basis (alone ∷ alone ∷ and_with (Position 1) ∷ []) (two_of (int_of 0) (two_of (int_of 1) (int_of 2)) ∷ [])) []
    (define 10 (at 1) 0
    (binding 9 (at 2) (tuple (amount 2 ∷ amount 3 ∷ [])) (last (at 3) (tuple (amount 1 ∷ variable 9 ∷ []))))
    no_items)
    ≡ implies [] (is_sum (literal 1) ∷ []) (part 0) 1 of_flow
    ∷ implies [] (is_sum (literal 2) ∷ []) (part 1) 1 of_flow
    ∷ implies (known (equals (field 1) (literal 2)) ∷ []) (is_sum (literal 3) ∷ []) (part 2) 1 of_flow ∷ []

-- let f p = () let () = f (1, 2), with f, p and a made name as 10 to 12
abbrev pub TupleArgumentExample : Type 0
TupleArgumentExample =
    implications_of
    (basis (alone ∷ and_with (Position 1) ∷ []) (function (Some 11) (two_of (int_of 0) (int_of 1)) unit_type ∷ [])) []
    (define 10 (at 1) 0 (last (at 2) (fun 0 11 (last (at 3) (pure t.unit))))
    (run_unit (binding 12 (at 4) (tuple (amount 1 ∷ amount 2 ∷ [])) (last (at 5) (call (variable 10) (variable 12)))) no_items))
    ≡ implies [] (is_sum (literal 1) ∷ []) (part 0) 5 of_argument
    ∷ implies (known (equals (field 1) (literal 1)) ∷ []) (is_sum (literal 2) ∷ []) (part 1) 5 of_argument ∷ []

-- let p = let a = Array.make 1 0 in (a, 5), with p and a as 10 and 11: an array as `#1`
abbrev pub ArrayInTupleExample : Type 0
ArrayInTupleExample =
    implications_of
    (basis (alone ∷ alone ∷ alone ∷ and_with (Position 1) ∷ []) (int_of 0 ∷ two_of (array_of (int_of 1) 2) (int_of 3) ∷ [])) []
    (define 10 (at 1) 1
    (binding 11 (at 2) (make 0 (amount 1) (amount 0)) (last (at 3) (tuple (variable 11 ∷ amount 5 ∷ []))))
    no_items)
    ≡ implies [] [] (known (compare op.Le (literal 0) (literal 1))) 2 of_length
    ∷ implies [] (is_sum (literal 0) ∷ []) (part 0) 2 of_argument
    ∷ implies (length_is 11 1 ∷ []) (is_object (bound 11) ∷ []) (part 2) 1 of_flow
    ∷ implies (length_is 11 1 ∷ []) (part 0 ∷ []) (part 1) 1 of_flow
    ∷ implies (length_is 11 1 ∷ []) (part 1 ∷ []) (part 0) 1 of_flow
    ∷ implies (length_is 11 1 ∷ known (objects (field 1) (bound 11)) ∷ []) (is_sum (literal 5) ∷ []) (part 3) 1 of_flow ∷ []

-- let f x = x let p = (f, 1), with f, x and p as 10 to 12: a function in a tuple, the argument first
abbrev pub FunctionInTupleExample : Type 0
FunctionInTupleExample =
    let twin = bound 2147483659 in
    implications_of
    (basis (alone ∷ and_with (symbol_of 11) ∷ alone ∷ alone ∷ alone ∷ [])
    (function (Some 11) (int_of 0) (int_of 1) ∷ two_of (function None (int_of 2) (int_of 3)) (int_of 4) ∷ []))
    []
    (define 10 (at 1) 0 (last (at 2) (fun 0 11 (last (at 3) (pure (variable 11)))))
    (define 12 (at 4) 1 (last (at 5) (tuple (variable 10 ∷ amount 1 ∷ []))) no_items))
    ≡ implies (unknown 0 (for_value (bound 11) ∷ []) ∷ []) (is_sum (bound 11) ∷ []) (part 1) 3 of_flow
    ∷ implies [] (part 2 ∷ []) (part 0) 4 of_flow
    ∷ implies (unknown 2 (for_value twin ∷ []) ∷ []) (unknown 1 (for_name 11 twin ∷ []) ∷ []) (part 3) 4 of_flow
    ∷ implies [] (is_sum (literal 1) ∷ []) (part 4) 4 of_flow ∷ []

-- ---- arrays

-- let m = let r = Array.make 1 0 in Array.make 2 r, with m and r as 10 and 11: both ways inside both ways
abbrev pub NestedArrayExample : Type 0
NestedArrayExample =
    let known_r = length_is 11 1 ∷ [] in
    implications_of
    (basis (alone ∷ alone ∷ alone ∷ alone ∷ alone ∷ alone ∷ [])
    (int_of 0 ∷ array_of (int_of 1) 2 ∷ array_of (array_of (int_of 3) 4) 5 ∷ []))
    []
    (define 10 (at 1) 2
    (binding 11 (at 2) (make 0 (amount 1) (amount 0)) (last (at 3) (make 1 (amount 2) (variable 11))))
    no_items)
    ≡ implies [] [] (known (compare op.Le (literal 0) (literal 1))) 2 of_length
    ∷ implies [] (is_sum (literal 0) ∷ []) (part 0) 2 of_argument
    ∷ implies known_r [] (known (compare op.Le (literal 0) (literal 2))) 3 of_length
    ∷ implies known_r (is_object (bound 11) ∷ []) (part 2) 3 of_argument
    ∷ implies known_r (part 0 ∷ []) (part 1) 3 of_argument
    ∷ implies known_r (part 1 ∷ []) (part 0) 3 of_argument
    ∷ implies known_r (known (equals (s.len value) (literal 2)) ∷ []) (part 5) 1 of_flow
    ∷ implies known_r (part 2 ∷ []) (part 4) 1 of_flow
    ∷ implies known_r (part 1 ∷ []) (part 3) 1 of_flow
    ∷ implies known_r (part 3 ∷ []) (part 1) 1 of_flow
    ∷ implies known_r (part 4 ∷ []) (part 2) 1 of_flow
    ∷ implies known_r (part 3 ∷ []) (part 1) 1 of_flow
    ∷ implies known_r (part 1 ∷ []) (part 3) 1 of_flow ∷ []

-- let _ = Array.make 1 true
abbrev pub TruthArrayExample : Type 0
TruthArrayExample =
    implications_of (basis (alone ∷ []) (bool_with (part 0 ∷ []) ∷ [])) []
    (t.run_any (last (at 1) (make 0 (amount 1) (t.flag true))) no_items)
    ≡ implies [] [] (known (compare op.Le (literal 0) (literal 1))) 1 of_length
    ∷ implies [] (known (equivalence (flag Value) truth) ∷ []) (part 0) 1 of_argument ∷ []

-- let first a = a.(0) let x = first (Array.make 1 7), with first, a, a made name and x as 10 to 13: the elements of a have any type, here
-- `int` with the unknown 1
abbrev pub PolymorphicArrayExample : Type 0
PolymorphicArrayExample =
    let range = conjunction (compare op.Le (literal 0) (literal 0)) (compare op.Lt (literal 0) (s.len (bound 11))) in
    implications_of
    (basis_with (alone ∷ alone ∷ alone ∷ alone ∷ [])
    (function (Some 11) (array_of (type_variable 0) 0) (type_variable 0) ∷ int_of 2 ∷ int_of 3 ∷ []) (more (int_of 1) none))
    []
    (define 10 (at 1) 0 (last (at 2) (fun 0 11 (last (at 3) (fetch (the 11) (amount 0)))))
    (define 13 (at 4) 2
    (binding 12 (at 5) (make 1 (amount 1) (amount 7))
    (last (at 6) (call (t.use_of record { name = 10; type_arguments = Some 0 }) (variable 12))))
    no_items))
    ≡ implies (unknown 0 (for_value (bound 11) ∷ []) ∷ []) [] (known range) 3 of_index
    ∷ implies [] [] (known (compare op.Le (literal 0) (literal 1))) 5 of_length
    ∷ implies [] (is_sum (literal 7) ∷ []) (part 2) 5 of_argument
    ∷ implies (length_is 12 1 ∷ []) (is_object (bound 12) ∷ []) (part 0) 6 of_argument
    ∷ implies (length_is 12 1 ∷ []) (part 2 ∷ []) (part 1) 6 of_argument
    ∷ implies (length_is 12 1 ∷ []) (part 1 ∷ []) (part 2) 6 of_argument
    ∷ implies (length_is 12 1 ∷ []) (part 1 ∷ []) (part 3) 4 of_flow ∷ []

-- ---- datatypes

-- let o = Some 1
abbrev pub SomeExample : Type 0
SomeExample =
    implications_of
    (basis (alone ∷ alone ∷ alone ∷ []) (option_with (int_of 0) [] ∷ option_with (int_of 1) (part 2 ∷ []) ∷ [])) []
    (define 10 (at 1) 1 (last (at 2) (build 0 10 (amount 1 ∷ []))) no_items)
    ≡ implies [] (is_sum (literal 1) ∷ []) (part 0) 2 of_argument
    ∷ implies [] [] (part 2) 1 of_flow
    ∷ implies [] (part 0 ∷ []) (part 1) 1 of_flow ∷ []

-- let o = None: its element is `false`
abbrev pub NoneExample : Type 0
NoneExample =
    implications_of
    (basis (alone ∷ alone ∷ alone ∷ []) (option_with (int_of 0) [] ∷ option_with (int_of 1) (part 2 ∷ []) ∷ [])) []
    (define 10 (at 1) 1 (last (at 2) (build 0 9 [])) no_items)
    ≡ implies [] [] (part 2) 1 of_flow ∷ implies [] (known falsity ∷ []) (part 1) 1 of_flow ∷ []

-- let o = None, for functions: an argument that predicates can't speak of is the template's
abbrev pub NoFunctionExample : Type 0
NoFunctionExample =
    implications_of
    (basis (alone ∷ alone ∷ alone ∷ alone ∷ alone ∷ [])
    (option_with (function None (int_of 0) (int_of 1)) [] ∷ option_with (function None (int_of 2) (int_of 3)) (part 4 ∷ []) ∷ [])) []
    (define 10 (at 1) 1 (last (at 2) (build 0 9 [])) no_items)
    ≡ implies [] [] (part 4) 1 of_flow
    ∷ implies [] (part 2 ∷ []) (part 0) 1 of_flow
    ∷ implies [] (part 1 ∷ []) (part 3) 1 of_flow ∷ []

-- let l = [], for `unit`: nothing is said of elements
abbrev pub UnitListExample : Type 0
UnitListExample =
    let unit_list = λ (p : Parts). data_with 4 (more unit_type none) [] p in
    implications_of (basis (alone ∷ []) (unit_list [] ∷ unit_list (part 0 ∷ []) ∷ [])) []
    (define 10 (at 1) 1 (last (at 2) (build 0 7 [])) no_items)
    ≡ implies [] (known (equals (size value) (literal 0)) ∷ []) (part 0) 1 of_flow ∷ []

-- let rec f l = match l with h :: t -> h | [] -> 0: in the order of the constructors' definition
abbrev pub OrderExample : Type 0
OrderExample =
    implications_of list_basis []
    (list_function (arm (pattern_build 8 (12 ∷ 13 ∷ [])) (last (at 4) (pure (variable 12))) (empty_arm no_arms)))
    ≡ implies in_empty (is_sum (literal 0) ∷ []) (part 3) 2 of_flow
    ∷ implies in_filled (is_sum (bound 12) ∷ []) (part 3) 4 of_flow ∷ []

-- let rec f l = match l with [] -> 0 | _ -> 1: the second arm has no equation
abbrev pub OtherwiseExample : Type 0
OtherwiseExample =
    implications_of list_basis [] (list_function (empty_arm (arm pattern_any (last (at 4) (pure (amount 1))) no_arms)))
    ≡ implies in_empty (is_sum (literal 0) ∷ []) (part 3) 2 of_flow
    ∷ implies (of_l ∷ []) (is_sum (literal 1) ∷ []) (part 3) 4 of_flow ∷ []

-- let rec f l = match l with [] -> 0 | h :: t -> match l with h1 :: t1 -> h1: in the inner match the outer equation is known, and it can't
-- be of `[]`
abbrev pub MatchTwiceExample : Type 0
MatchTwiceExample =
    implications_of list_basis []
    (list_function
    (empty_arm
    (arm (pattern_build 8 (12 ∷ 13 ∷ []))
    (last (at 4) (match_on 9 (the 11) (arm (pattern_build 8 (14 ∷ 15 ∷ [])) (last (at 5) (pure (variable 14))) no_arms))) no_arms)))
    ≡ implies in_empty (is_sum (literal 0) ∷ []) (part 3) 2 of_flow
    ∷ implies (in_filled ++ known (equals (size (bound 11)) (literal 0)) ∷ []) [] (known falsity) 4 of_case
    ∷ implies
    (in_filled
    ++ (unknown 0 (for_value (bound 14) ∷ []) ∷ known (equals (size (bound 11)) (s.add (literal 1) (size (bound 15)))) ∷ []))
    (is_sum (bound 14) ∷ []) (part 3) 5 of_flow ∷ []

-- let f l = l, with f and l as 10 and 11: the top, the elements, and the entry of the matrix for an element behind the head `#1`
abbrev pub MatrixExample : Type 0
MatrixExample =
    let cell_scope = and_with (Position 1) in
    implications_of
    (basis (alone ∷ cell_scope ∷ alone ∷ and_with (symbol_of 11) ∷ cell_scope ∷ and_with (symbol_of 11) ∷ [])
    (function (Some 11) (list_of (part 0 ∷ []) 1 (part 2 ∷ [])) (list_of (part 3 ∷ []) 4 (part 5 ∷ [])) ∷ []))
    [] (define 10 (at 1) 0 (last (at 2) (fun 0 11 (last (at 3) (pure (variable 11))))) no_items)
    ≡ implies (of_l ∷ []) (is_object (bound 11) ∷ []) (part 5) 3 of_flow
    ∷ implies (of_l ∷ []) (part 0 ∷ []) (part 3) 3 of_flow
    ∷ implies (of_l ∷ unknown 0 (for_value (field 1) ∷ []) ∷ part 0 ∷ []) (part 1 ∷ []) (part 4) 3 of_flow ∷ []

-- ---- maps

-- let m = Map.add 1 Map.empty Map.empty, with the made names of the maps as 8 and 9: a map of maps of numbers. The inner map goes into the
-- template as it is, since `#0` is its own key there.
abbrev pub NestedMapExample : Type 0
NestedMapExample =
    let key_scope = and_with (Position 0) in
    let map_of = λ (t : Refined). map_with t [] in
    implications_of
    (basis (key_scope ∷ key_scope ∷ key_scope ∷ key_scope ∷ [])
    (int_of 0 ∷ map_of (int_of 1) ∷ map_of (map_of (int_of 2)) ∷ map_of (map_of (int_of 3)) ∷ []))
    []
    (define 10 (at 1) 3
    (binding 8 (at 2) (map_empty 0) (binding 9 (at 3) (map_empty 1) (last (at 4) (map_add 2 (amount 1) (variable 8) (variable 9)))))
    no_items)
    ≡ implies [] (known falsity ∷ []) (part 2) 4 of_argument
    ∷ implies [] (part 1 ∷ []) (part 2) 4 of_argument
    ∷ implies [] (part 2 ∷ []) (part 3) 1 of_flow ∷ []
