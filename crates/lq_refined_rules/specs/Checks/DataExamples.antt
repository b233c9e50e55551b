-- The implications of some programs, worked out by hand: tuples, datatypes and maps.
use Rattle.std.specs.Prelude.{◌≡◌, ℕ, zero, suc, [], ◌∷◌, ◌++◌, Some}
use Rattle.lq_base_names.specs.declared.operation.CompareOp.TheVariants as op
use Rattle.lq_refined_types.specs.Parts.Part.{Part, known, unknown, Parts}
use Rattle.lq_logic_predicates.specs.Formula.{falsity, compare, objects}
use Rattle.lq_logic_predicates.specs.Sum as s
use Rattle.lq_logic_predicates.specs.declared.symbol.Symbol.TheVariants.{Position}
use Rattle.lq_refined_types.specs.Types.Operations.{symbol_of}
use Rattle.lq_refined_types.specs.Types.Refined.{Refined, unit_type, function, tuple_of, map_with, none, more}
use Rattle.lq_refined_types.specs.Subtyping.Implication.{of_assertion, of_case, of_argument, of_flow}
use Rattle.lq_text_tree.specs.MlType as ml
use Rattle.lq_text_tree.specs.Types.{list_type}
use Rattle.lq_refined_rules.specs.Checks.Basis.{Basis}
use Rattle.lq_refined_rules.specs.Checks.Binders.{binders, AllDiffer}
use Rattle.lq_refined_rules.specs.Checks.Listing.{implications_of}
use Rattle.lq_refined_rules.specs.Checks.Operation.{value}
use Rattle.lq_refined_rules.specs.Checks.Pure.{literal}
use Rattle.lq_refined_rules.specs.Checks.Sample.{at, the, variable, amount, bound, field, size, equals, is_sum, is_object, part, for_value, for_name, for_field, int_of, list_of, implies, basis, alone, and_with}
use Rattle.lq_refined_rules.specs.Checks.Tree as t
use Rattle.lq_refined_rules.specs.Checks.Tree.{Block, Program, pattern_any, pattern_name, pattern_unit, pattern_tuple, pattern_build, Arms, no_arms, arm, pure, fun, match_on, call, tuple, build, assert, read, map_empty, map_add, map_find, last, binding, no_items, define, define_recursive, run_unit, run_any}
use Rattle.lq_refined_rules.specs.Checks.Typing.{Points, AreTemplates, HasProgram}

-- ---- tuples: let p = (1, 2), with p as 10; the second component's unknown may speak of the first as `#1`

abbrev pub pair_type : Refined
pair_type = tuple_of (more (int_of 0) (more (int_of 1) none))

abbrev pub TupleExample : Type 0
TupleExample =
    implications_of (basis (alone ∷ and_with (Position 1) ∷ []) (pair_type ∷ [])) []
    (define 10 (at 1) 0 (last (at 2) (tuple (amount 1 ∷ amount 2 ∷ []))) no_items)
    ≡ implies [] (is_sum (literal 1) ∷ []) (part 0) 1 of_flow
    ∷ implies (known (equals (field 1) (literal 1)) ∷ []) (is_sum (literal 2) ∷ []) (part 1) 1 of_flow ∷ []

-- let f p = match p with (a, b) -> b, with f, p, a and b as 10 to 13: a stands for `#1` in what is known of b
abbrev pub TupleMatchExample : Type 0
TupleMatchExample =
    implications_of
    (basis (alone ∷ and_with (Position 1) ∷ alone ∷ []) (function (Some 11) pair_type (int_of 2) ∷ [])) []
    (define 10 (at 1) 0
    (last (at 2)
    (fun 0 11 (last (at 3) (match_on 1 (the 11) (arm (pattern_tuple (12 ∷ 13 ∷ [])) (last (at 4) (pure (variable 13))) no_arms)))))
    no_items)
    ≡ implies
    (unknown 0 (for_value (bound 12) ∷ []) ∷ unknown 1 (for_field 1 (bound 12) ∷ for_value (bound 13) ∷ []) ∷ [])
    (is_sum (bound 13) ∷ []) (part 2) 4 of_flow ∷ []

-- ---- let rec f l = match l with [] -> 0 | h :: t -> h + f t, with f, l, h, t and a made name as 10 to 14

-- the elements of l have the unknown 0, its matrix 1, which may speak of the head as `#1`, its top 2, and the result 3, which may speak
-- of l
abbrev pub list_basis : Basis
list_basis =
    basis (alone ∷ and_with (Position 1) ∷ alone ∷ and_with (symbol_of 11) ∷ [])
    (function (Some 11) (list_of (part 0 ∷ []) 1 (part 2 ∷ [])) (int_of 3) ∷ [])

abbrev pub list_function : Arms → Program
list_function arms = define_recursive 10 0 11 (last (at 1) (match_on 1 (the 11) arms)) no_items

abbrev pub empty_arm : Arms → Arms
empty_arm arms = arm (pattern_build 7 []) (last (at 2) (pure (amount 0))) arms

abbrev pub filled_arm : Arms
filled_arm =
    arm (pattern_build 8 (12 ∷ 13 ∷ []))
    (binding 14 (at 3) (call (variable 10) (variable 13)) (last (at 4) (pure (t.add (variable 12) (variable 14))))) no_arms

-- l and its size as that of `[]`; l, the head, and its size as that of the head and the tail
abbrev pub of_l : Part
of_l = unknown 2 (for_value (bound 11) ∷ [])

abbrev pub in_empty : Parts
in_empty = of_l ∷ known (equals (size (bound 11)) (literal 0)) ∷ []

abbrev pub in_filled : Parts
in_filled =
    of_l ∷ unknown 0 (for_value (bound 12) ∷ []) ∷ known (equals (size (bound 11)) (s.add (literal 1) (size (bound 13)))) ∷ []

-- an element of the tail, which is as the matrix says of the head
abbrev pub of_tail : Parts
of_tail = part 0 ∷ unknown 1 (for_field 1 (bound 12) ∷ []) ∷ []

-- the first element of the tail as `#1`
abbrev pub tail_head : Parts
tail_head = unknown 0 (for_value (field 1) ∷ []) ∷ unknown 1 (for_field 1 (bound 12) ∷ for_value (field 1) ∷ []) ∷ []

abbrev pub ListExample : Type 0
ListExample =
    implications_of list_basis [] (list_function (empty_arm filled_arm))
    ≡ implies in_empty (is_sum (literal 0) ∷ []) (part 3) 2 of_flow
    ∷ implies in_filled (is_object (bound 13) ∷ []) (part 2) 3 of_argument
    ∷ implies in_filled of_tail (part 0) 3 of_argument
    ∷ implies (in_filled ++ (tail_head ++ of_tail)) (part 1 ∷ []) (part 1) 3 of_argument
    ∷ implies (in_filled ++ unknown 3 (for_name 11 (bound 13) ∷ for_value (bound 14) ∷ []) ∷ [])
    (is_sum (s.add (bound 12) (bound 14)) ∷ []) (part 3) 4 of_flow ∷ []

-- it is simply typed too, its binders differ, and its template has the simple type of its point
abbrev pub list_point : ℕ → ml.MlType
list_point zero = ml.arrow (list_type ml.int) ml.int
list_point (suc p) = ml.unit

abbrev pub list_points : Points
list_points = record { point = list_point; type_arguments = λ i. ml.no_types }

abbrev pub TypedListExample : Type 0
TypedListExample =
    let program = list_function (empty_arm filled_arm) in
    AreTemplates list_basis list_points × HasProgram list_basis list_points [] program × AllDiffer (binders program)

-- without the arm of `[]`: that it is impossible comes first, as `[]` is defined before `::`
abbrev pub MissingCaseExample : Type 0
MissingCaseExample =
    implications_of list_basis [] (list_function (arm (pattern_build 8 (12 ∷ 13 ∷ [])) (last (at 4) (pure (variable 12))) no_arms))
    ≡ implies in_empty [] (known falsity) 1 of_case
    ∷ implies in_filled (is_sum (bound 12) ∷ []) (part 3) 4 of_flow ∷ []

-- An arm of one variable before that of `[]`: it is for the other constructors, and is checked last, with no equation. A second arm of `[]`
-- isn't checked.
abbrev pub DefaultExample : Type 0
DefaultExample =
    implications_of list_basis []
    (list_function
    (arm (pattern_name 12) (last (at 4) (pure (amount 1)))
    (empty_arm (arm (pattern_build 7 []) (last (at 5) (pure (amount 2))) no_arms))))
    ≡ implies in_empty (is_sum (literal 0) ∷ []) (part 3) 2 of_flow
    ∷ implies (of_l ∷ known (objects (bound 12) (bound 11)) ∷ []) (is_sum (literal 1) ∷ []) (part 3) 4 of_flow
    ∷ []

-- ---- let l = 5 :: [], with the made name of `[]` and l as 10 and 11

-- `[]` has the template 0, `::` the template 1, and l the template 2. Of `[]` there is no element, so its element is `false`. The tail's
-- elements are to be as the matrix says of the head, with 5 for `#1`. The size of l is that of `::` with the operands for its fields.
abbrev pub BuildExample : Type 0
BuildExample =
    let of_name = known (equals (size (bound 10)) (literal 0)) ∷ [] in
    let no_element = known falsity ∷ [] in
    let cell_scope = and_with (Position 1) in
    implications_of
    (basis (alone ∷ cell_scope ∷ alone ∷ cell_scope ∷ alone ∷ cell_scope ∷ alone ∷ [])
    (list_of (part 0 ∷ []) 1 [] ∷ list_of (part 2 ∷ []) 3 [] ∷ list_of (part 4 ∷ []) 5 (part 6 ∷ []) ∷ [])) []
    (define 11 (at 1) 2 (binding 10 (at 2) (build 0 7 []) (last (at 3) (build 1 8 (amount 5 ∷ variable 10 ∷ [])))) no_items)
    ≡ implies of_name (is_sum (literal 5) ∷ []) (part 2) 3 of_argument
    ∷ implies of_name no_element (part 2) 3 of_argument
    ∷ implies of_name no_element (unknown 3 (for_field 1 (literal 5) ∷ [])) 3 of_argument
    ∷ implies (of_name ++ (no_element ++ no_element)) (part 1 ∷ []) (part 3) 3 of_argument
    ∷ implies of_name (known (equals (size value) (s.add (literal 1) (size (bound 10)))) ∷ []) (part 6) 1 of_flow
    ∷ implies of_name (part 2 ∷ []) (part 4) 1 of_flow
    ∷ implies (of_name ++ (unknown 2 (for_value (field 1) ∷ []) ∷ part 2 ∷ [])) (part 3 ∷ []) (part 5) 1 of_flow ∷ []

-- ---- maps: let m = Map.add 3 5 Map.empty let f k = match Map.find k m with None -> () | Some x -> assert (k <= x)

-- with a made name of `Map.empty`, m, f, k, a made name and x as 9 to 14. `Map.empty` has no element; the unknowns of elements may speak of
-- the key as `#0`: 0 is that of `Map.add`, 1 that of m.
abbrev pub map_basis : Basis
map_basis =
    basis (and_with (Position 0) ∷ and_with (Position 0) ∷ alone ∷ [])
    (int_of 0 ∷ map_with (int_of 0) [] ∷ map_with (int_of 1) [] ∷ function (Some 12) (int_of 2) unit_type ∷ [])

abbrev pub map_program : Program
map_program =
    define 10 (at 1) 2 (binding 9 (at 2) (map_empty 0) (last (at 3) (map_add 1 (amount 3) (amount 5) (variable 9))))
    (define 11 (at 4) 3
    (last (at 5)
    (fun 3 12
    (binding 13 (at 6) (map_find (variable 12) (variable 10))
    (last (at 7)
    (match_on 4 (the 13)
    (arm (pattern_build 9 []) (last (at 8) (pure t.unit))
    (arm (pattern_build 10 (14 ∷ [])) (last (at 9) (assert (t.compare op.Le (variable 12) (variable 14)))) no_arms)))))))
    no_items)

abbrev pub MapExample : Type 0
MapExample =
    implications_of map_basis [] map_program
    ≡ implies [] (is_sum (literal 5) ∷ []) (unknown 0 (for_field 0 (literal 3) ∷ [])) 3 of_argument
    ∷ implies [] (known falsity ∷ []) (part 0) 3 of_argument
    ∷ implies [] (part 0 ∷ []) (part 1) 1 of_flow
    ∷ implies (unknown 2 (for_value (bound 12) ∷ []) ∷ unknown 0 (for_field 0 (bound 12) ∷ for_value (bound 14) ∷ []) ∷ []) []
    (known (compare op.Le (bound 12) (bound 14))) 9 of_assertion ∷ []
