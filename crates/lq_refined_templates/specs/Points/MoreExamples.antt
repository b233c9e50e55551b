-- Some more programs with their points and unknowns, worked out by hand: generalised names, datatypes, arms and maps.
use Rattle.std.specs.Prelude.{◌≡◌, ℕ, List, [], ◌∷◌, Some, None}
use Rattle.lq_refined_rules.specs.Checks.Sample.{at, the, variable, amount, part, tail_cell}
use Rattle.lq_refined_rules.specs.Checks.Tree as t
use Rattle.lq_refined_types.specs.Parts.Part.{known}
use Rattle.lq_logic_predicates.specs.Formula.{falsity}
use Rattle.lq_refined_types.specs.Types.Refined.{int_with, data_with, none, more}
use Rattle.lq_text_qualifiers.specs.Faults.Shapes as shape
use Rattle.lq_text_tree.specs.MlType as ml
use Rattle.lq_text_tree.specs.Pattern.{pattern, any, build_of, no_patterns, more_patterns}
use Rattle.lq_text_tree.specs.Pattern as p
use Rattle.lq_text_tree.specs.Tree as form
use Rattle.lq_text_tree.specs.Tree.{no_trees, no_cases, more_cases}
use Rattle.lq_text_tree.specs.declared.expr.Arguments.TheVariants.{Apart}
use Rattle.lq_refined_templates.specs.Points.Point.{Point, whole, inner, constant, empty, each, idle, one_type}
use Rattle.lq_refined_templates.specs.Points.Sample.{node, name, number, binder, define, pair, annotation, list_of, option_of, int_named, option_named, first_field, key, lists_and_options, Reads}
use Rattle.lq_refined_templates.specs.Points.Templates.{templates_from}

-- let id x = x let a = id 3 let l = [id], with 0 to 3 for the names, and 4 and 5 for made ones: each use of id has templates for its type
-- variable, and the made name 4, whose uses have the number of that of id, has none
abbrev pub PolymorphicExample : Type 0
PolymorphicExample =
    let identity = ml.arrow (ml.var 0) (ml.var 0) in
    let use_of : ℕ → t.Pure = λ i. t.use_of record { name = 0; type_arguments = Some i } in
    let filled = node 6 (form.build 8 Apart (pair (name 5 4) (name 6 5))) in
    Reads
    (annotation
    ((Some 50, identity) ∷ (Some 51, ml.var 0) ∷ (Some 52, ml.int) ∷ (Some 53, list_of identity) ∷ (None, identity) ∷ (None, list_of identity) ∷ [])
    ((1, identity) ∷ (6, list_of identity) ∷ [])
    ((2, one_type ml.int) ∷ (5, one_type (ml.var 0)) ∷ []))
    (define 0 (node 1 (form.fun (binder 1) (name 0 1))) ∷ define 2 (node 4 (form.call (name 2 0) (number 3 3)))
    ∷ define 3 (node 5 (form.let_in (binder 4) (name 5 0) (node 6 (form.let_in (binder 5) (node 6 (form.build 7 Apart no_trees)) filled)))) ∷ [])
    (t.define 0 (at 20) 0 (t.last (at 1) (t.fun 0 1 (t.last (at 0) (t.pure (variable 1)))))
    (t.define 2 (at 22) 2 (t.last (at 4) (t.call (use_of 1) (amount 3)))
    (t.define 3 (at 23) 6
    (t.binding 4 (at 5) (t.pure (use_of 3))
    (t.binding 5 (at 6) (t.build 4 7 []) (t.last (at 6) (t.build 5 8 (variable 4 ∷ variable 5 ∷ [])))))
    t.no_items)))
    (whole [] (Some 1 ∷ []) identity ∷ each [] (one_type ml.int) ∷ whole [] [] ml.int ∷ each (int_named 2 ∷ []) (one_type (ml.var 0))
    ∷ constant (int_named 2 ∷ []) (list_of identity) ∷ inner (int_named 2 ∷ []) (list_of identity)
    ∷ whole (int_named 2 ∷ []) [] (list_of identity) ∷ [])
    (([], shape.int) ∷ ([], shape.int) ∷ (int_named 2 ∷ [], shape.data_of 4) ∷ [])

-- ---- let l = [5], with l and two made names as 0 to 2

abbrev pub list_points : List Point
list_points = constant [] (list_of ml.int) ∷ inner [] (list_of ml.int) ∷ whole [] [] (list_of ml.int) ∷ []

-- `[]` has one unknown, for the matrix: there is no element. `::` has one for its elements and one for the matrix, and l three
abbrev pub ListExample : Type 0
ListExample =
    let filled = node 1 (form.build 8 Apart (pair (name 0 1) (name 1 2))) in
    Reads
    (annotation ((Some 50, list_of ml.int) ∷ []) ((1, list_of ml.int) ∷ []) [])
    (define 0 (node 0 (form.let_in (binder 1) (number 0 5) (node 1 (form.let_in (binder 2) (node 1 (form.build 7 Apart no_trees)) filled)))) ∷ [])
    (t.define 0 (at 20) 2
    (t.binding 1 (at 0) (t.pure (amount 5))
    (t.binding 2 (at 1) (t.build 0 7 []) (t.last (at 1) (t.build 1 8 (variable 1 ∷ variable 2 ∷ [])))))
    t.no_items)
    list_points
    ((first_field ∷ [], shape.int) ∷ ([], shape.int) ∷ (first_field ∷ [], shape.int) ∷ ([], shape.int) ∷ (first_field ∷ [], shape.int)
    ∷ ([], shape.data_of 4) ∷ [])

abbrev pub ListTemplates : Type 0
ListTemplates =
    templates_from lists_and_options 0 list_points
    ≡ more (data_with 4 (more (int_with (known falsity ∷ [])) none) (tail_cell 0 ∷ []) []) none
    ∷ more (data_with 4 (more (int_with (part 1 ∷ [])) none) (tail_cell 2 ∷ []) []) none
    ∷ more (data_with 4 (more (int_with (part 3 ∷ [])) none) (tail_cell 4 ∷ []) (part 5 ∷ [])) none ∷ []

-- ---- let f o = match o with Some x -> Array.make x 0 | Some y -> Array.make y 1 | z -> Array.make 1 2 | _ -> Array.make 2 3

-- f, o, x, y and z are 0 to 4. No rule checks the second arm of `Some`, nor what stands behind the arm of a name.
abbrev pub ArmsExample : Type 0
ArmsExample =
    let some : ℕ → p.Pattern = λ x. pattern (at 40) (build_of 10 (at 40) (more_patterns (binder x) no_patterns)) in
    let made : ℕ → form.Tree → form.Tree → form.Tree = λ i a b. node i (form.make a b) in
    let ints = ml.array ml.int in
    Reads
    (annotation
    ((Some 50, ml.arrow (option_of ml.int) ints) ∷ (Some 51, option_of ml.int) ∷ (Some 52, ml.int) ∷ (Some 53, ml.int) ∷ (Some 54, option_of ml.int) ∷ [])
    ((3, ints) ∷ (6, ints) ∷ (9, ints) ∷ (12, ints) ∷ (13, ints) ∷ (14, ml.arrow (option_of ml.int) ints) ∷ [])
    [])
    (define 0
    (node 14
    (form.fun (binder 1)
    (node 13
    (form.match_on (name 0 1)
    (more_cases (some 2) (made 3 (name 1 2) (number 2 0))
    (more_cases (some 3) (made 6 (name 4 3) (number 5 1))
    (more_cases (binder 4) (made 9 (number 7 1) (number 8 2))
    (more_cases (pattern (at 40) any) (made 12 (number 10 2) (number 11 3)) no_cases))))))))
    ∷ [])
    (t.define 0 (at 20) 0
    (t.last (at 14)
    (t.fun 0 1
    (t.last (at 13)
    (t.match_on 1 (the 1)
    (t.arm (t.pattern_build 10 (2 ∷ [])) (t.last (at 3) (t.make 2 (variable 2) (amount 0)))
    (t.arm (t.pattern_build 10 (3 ∷ [])) (t.last (at 6) (t.make 3 (variable 3) (amount 1)))
    (t.arm (t.pattern_name 4) (t.last (at 9) (t.make 4 (amount 1) (amount 2)))
    (t.arm t.pattern_any (t.last (at 12) (t.make 5 (amount 2) (amount 3))) t.no_arms))))))))
    t.no_items)
    (whole [] (Some 1 ∷ []) (ml.arrow (option_of ml.int) ints) ∷ idle (one_type ints) ∷ whole (option_named 1 ∷ int_named 2 ∷ []) [] ml.int
    ∷ idle (one_type ml.int) ∷ whole (option_named 1 ∷ option_named 4 ∷ []) [] ml.int ∷ idle (one_type ml.int) ∷ [])
    (([], shape.int) ∷ ([], shape.data_of 5) ∷ (option_named 1 ∷ [], shape.int) ∷ (option_named 1 ∷ [], shape.array)
    ∷ (option_named 1 ∷ int_named 2 ∷ [], shape.int) ∷ (option_named 1 ∷ option_named 4 ∷ [], shape.int) ∷ [])

-- let m = Map.add 1 2 Map.empty, with m and a made name as 0 and 1: the empty map has no unknown, the others one for their elements, which
-- may speak of the key
abbrev pub MapExample : Type 0
MapExample =
    let ints = ml.map_of ml.int in
    Reads
    (annotation ((Some 50, ints) ∷ []) ((2, ints) ∷ (3, ints) ∷ []) [])
    (define 0 (node 2 (form.let_in (binder 1) (node 2 form.map_empty) (node 3 (form.map_add (number 0 1) (number 1 2) (name 2 1))))) ∷ [])
    (t.define 0 (at 20) 2
    (t.binding 1 (at 2) (t.map_empty 0) (t.last (at 3) (t.map_add 1 (amount 1) (amount 2) (variable 1))))
    t.no_items)
    (empty [] ml.int ∷ whole [] [] ints ∷ whole [] [] ints ∷ [])
    ((key ∷ [], shape.int) ∷ (key ∷ [], shape.int) ∷ [])
