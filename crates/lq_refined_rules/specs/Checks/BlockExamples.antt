-- The implications of some programs, worked out by hand: what blocks bind, truth values, and matches on types that are no datatypes.
use Rattle.std.specs.Prelude.{◌≡◌, true, [], ◌∷◌, Some}
use Rattle.lq_base_names.specs.declared.operation.CompareOp.TheVariants as op
use Rattle.lq_refined_types.specs.Parts.Part.{Part, known, unknown}
use Rattle.lq_logic_predicates.specs.Formula.{truth, flag, compare, negation, conjunction, equivalence}
use Rattle.lq_logic_predicates.specs.Sum as s
use Rattle.lq_logic_predicates.specs.declared.symbol.Symbol.TheVariants.{Value}
use Rattle.lq_refined_types.specs.Types.Operations.{symbol_of}
use Rattle.lq_refined_types.specs.Types.Refined.{bool_with, unit_type, function, data_with, none, more}
use Rattle.lq_refined_types.specs.Subtyping.Implication.{of_assertion, of_argument, of_flow}
use Rattle.lq_refined_rules.specs.Checks.Basis.{Basis}
use Rattle.lq_refined_rules.specs.Checks.Listing.{implications_of}
use Rattle.lq_refined_rules.specs.Checks.Pure.{literal}
use Rattle.lq_refined_rules.specs.Checks.Sample.{at, the, variable, amount, bound, equals, is_sum, part, for_value, for_name, int_of, implies, basis, alone, and_with}
use Rattle.lq_refined_rules.specs.Checks.Tree as t
use Rattle.lq_refined_rules.specs.Checks.Tree.{Block, Program, pattern_name, pattern_unit, pattern_build, no_arms, arm, pure, fun, match_on, call, assert, print, last, binding, recursive, no_items, define, run_unit, run_any}

-- f, its parameter x, and an inner function g of y are 10 to 13: f has the unknowns 0 and 1, and g has 2 and 3, which may speak of x, and
-- the latter also of y
abbrev pub inner_basis : Basis
inner_basis =
    let x = symbol_of 11 in
    basis (alone ∷ and_with x ∷ and_with x ∷ (Value ∷ x ∷ symbol_of 13 ∷ []) ∷ [])
    (function (Some 11) (int_of 0) (int_of 1) ∷ function (Some 13) (int_of 2) (int_of 3) ∷ [])

abbrev pub of_outer : Part
of_outer = unknown 0 (for_value (bound 11) ∷ [])

abbrev pub of_inner : Part
of_inner = unknown 2 (for_value (bound 13) ∷ [])

abbrev pub outer_function : Block → Program
outer_function b = define 10 (at 1) 0 (last (at 2) (fun 0 11 b)) no_items

-- let f x = let g = fun y -> x + y in g 1
abbrev pub InnerFunctionExample : Type 0
InnerFunctionExample =
    implications_of inner_basis []
    (outer_function
    (binding 12 (at 3) (fun 1 13 (last (at 4) (pure (t.add (variable 11) (variable 13)))))
    (last (at 5) (call (variable 12) (amount 1)))))
    ≡ implies (of_outer ∷ of_inner ∷ []) (is_sum (s.add (bound 11) (bound 13)) ∷ []) (part 3) 4 of_flow
    ∷ implies (of_outer ∷ []) (is_sum (literal 1) ∷ []) (part 2) 5 of_argument
    ∷ implies (of_outer ∷ []) (unknown 3 (for_name 13 (literal 1) ∷ []) ∷ []) (part 1) 5 of_flow ∷ []

-- let f x = let rec g y = g (y - 1) in g x: where g is used, its template is as it stands, but for its twins
abbrev pub InnerRecursionExample : Type 0
InnerRecursionExample =
    let less = s.sub (bound 13) (literal 1) in
    implications_of inner_basis []
    (outer_function
    (recursive 12 1 13 (last (at 3) (call (variable 12) (t.subtract (variable 13) (amount 1))))
    (last (at 4) (call (variable 12) (variable 11)))))
    ≡ implies (of_outer ∷ of_inner ∷ []) (is_sum less ∷ []) (part 2) 3 of_argument
    ∷ implies (of_outer ∷ of_inner ∷ []) (unknown 3 (for_name 13 less ∷ []) ∷ []) (part 3) 3 of_flow
    ∷ implies (of_outer ∷ []) (is_sum (bound 11) ∷ []) (part 2) 4 of_argument
    ∷ implies (of_outer ∷ []) (unknown 3 (for_name 13 (bound 11) ∷ []) ∷ []) (part 1) 4 of_flow ∷ []

-- let f o = let y = match o with None -> 0 | Some x -> x in y + 1, with f, o, y and x as 10 to 13: the match has the template 1
abbrev pub BoundMatchExample : Type 0
BoundMatchExample =
    let of_o = unknown 1 (for_value (bound 11) ∷ []) in
    let option_type = data_with 5 (more (int_of 0) none) [] (part 1 ∷ []) in
    implications_of
    (basis (alone ∷ alone ∷ and_with (symbol_of 11) ∷ and_with (symbol_of 11) ∷ [])
    (function (Some 11) option_type (int_of 2) ∷ int_of 3 ∷ []))
    []
    (outer_function
    (binding 12 (at 3)
    (match_on 1 (the 11)
    (arm (pattern_build 9 []) (last (at 4) (pure (amount 0)))
    (arm (pattern_build 10 (13 ∷ [])) (last (at 5) (pure (variable 13))) no_arms)))
    (last (at 6) (pure (t.add (variable 12) (amount 1))))))
    ≡ implies (of_o ∷ []) (is_sum (literal 0) ∷ []) (part 3) 4 of_flow
    ∷ implies (of_o ∷ unknown 0 (for_value (bound 13) ∷ []) ∷ []) (is_sum (bound 13) ∷ []) (part 3) 5 of_flow
    ∷ implies (of_o ∷ unknown 3 (for_value (bound 12) ∷ []) ∷ []) (is_sum (s.add (bound 12) (literal 1)) ∷ []) (part 2) 6 of_flow ∷ []

-- let b = 0 < 1 let c = b && not b, with b and c as 10 and 11: truth values are equivalent to what they are
abbrev pub TruthExample : Type 0
TruthExample =
    let test = compare op.Lt (literal 0) (literal 1) in
    let b = flag (symbol_of 10) in
    implications_of (basis (alone ∷ alone ∷ []) (bool_with (part 0 ∷ []) ∷ bool_with (part 1 ∷ []) ∷ [])) []
    (define 10 (at 1) 0 (last (at 2) (pure (t.compare op.Lt (amount 0) (amount 1))))
    (define 11 (at 3) 1 (last (at 4) (pure (t.and_of (variable 10) (t.not_of (variable 10))))) no_items))
    ≡ implies [] (known (equivalence (flag Value) test) ∷ []) (part 0) 1 of_flow
    ∷ implies (known (equivalence b test) ∷ []) (known (equivalence (flag Value) (conjunction b (negation b))) ∷ []) (part 1) 3 of_flow ∷ []

-- let f x = match x with y -> y: on a number the one arm, in which y is x
abbrev pub NumberMatchExample : Type 0
NumberMatchExample =
    implications_of inner_basis []
    (outer_function (last (at 3) (match_on 1 (the 11) (arm (pattern_name 12) (last (at 4) (pure (variable 12))) no_arms))))
    ≡ implies (of_outer ∷ known (equals (bound 12) (bound 11)) ∷ []) (is_sum (bound 12) ∷ []) (part 1) 4 of_flow ∷ []

-- let u = () let () = match u with () -> print_int 1 let _ = assert true, with u as 10: a demand `true` is one
abbrev pub UnitExample : Type 0
UnitExample =
    implications_of (basis [] (unit_type ∷ [])) []
    (define 10 (at 1) 0 (last (at 2) (pure t.unit))
    (run_unit (last (at 3) (match_on 1 (the 10) (arm pattern_unit (last (at 4) (print (amount 1))) no_arms)))
    (run_any (last (at 5) (assert (t.flag true))) no_items)))
    ≡ implies [] [] (known truth) 5 of_assertion ∷ []
