-- A scalar program over lists: a recursive function that takes a list apart, and a use of it.
--     let rec sum l = match l with [] -> 0 | h :: t -> h + sum t
--     let () = print_int (sum (1 :: []))
-- In normal form, with 0 to 3 for sum, l, h and t, and 4 to 7 for made names:
--     let rec sum = fun l -> match l with [] -> 0 | h :: t -> let r = sum t in h + r
--     let () = let e = [] in let s = 1 :: e in let n = sum s in print_int n
use Rattle.std.specs.Prelude.{List, [], ◌∷◌, Some, None}
use Rattle.lq_refined_rules.specs.Checks.Binders.{binders}
use Rattle.lq_refined_rules.specs.Checks.Sample.{at}
use Rattle.lq_base_names.specs.declared.operation.ArithOp.TheVariants.{Add}
use Rattle.lq_refined_templates.specs.Points.Annotation.{Annotation}
use Rattle.lq_refined_templates.specs.Points.Reading.{program_of}
use Rattle.lq_refined_templates.specs.Points.Sample.{annotation, binder, name, node, number, pair}
use Rattle.lq_text_tree.specs.Items.{ItemTree, let_of, let_rec_of}
use Rattle.lq_text_tree.specs.MlType as ml
use Rattle.lq_text_tree.specs.MlType.{MlType}
use Rattle.lq_text_tree.specs.Pattern.{pattern, nothing, build_of, no_patterns, more_patterns}
use Rattle.lq_text_tree.specs.Tree as form
use Rattle.lq_text_tree.specs.Tree.{no_trees, no_cases, more_cases}
use Rattle.lq_text_tree.specs.Types.{list_type}
use Rattle.lq_text_tree.specs.declared.expr.Arguments.TheVariants.{Apart}
use Rattle.lq_sound_scope.specs.Scalars.Scalar.{HaveTwins, IsScalarProgram}

abbrev pub numbers : MlType
numbers = list_type ml.int

abbrev pub summing : MlType
summing = ml.arrow numbers ml.int

abbrev pub list_annotation : Annotation
list_annotation =
    annotation
    ((Some 50, summing) ∷ (Some 51, numbers) ∷ (Some 52, ml.int) ∷ (Some 53, numbers) ∷ (None, ml.int) ∷ (None, numbers) ∷ (None, numbers) ∷ (None, ml.int) ∷ [])
    ((1, ml.int) ∷ (2, numbers) ∷ (3, ml.int) ∷ (4, ml.int) ∷ (5, ml.int) ∷ (6, summing) ∷ (7, numbers) ∷ (8, ml.int) ∷ (9, ml.int) ∷ (10, ml.int)
    ∷ (12, numbers) ∷ (14, numbers) ∷ (15, ml.int) ∷ (16, numbers) ∷ (18, ml.int) ∷ (19, summing) ∷ (20, numbers) ∷ (22, ml.int) ∷ []) []

abbrev pub list_program : List ItemTree
list_program =
    let added = node 8 (form.arithmetic Add (name 9 2) (name 10 4)) in
    let filled = node 4 (form.let_in (binder 4) (node 5 (form.call (name 6 0) (name 7 3))) added) in
    let nil = pattern (at 42) (build_of 7 (at 42) no_patterns) in
    let cons = pattern (at 43) (build_of 8 (at 43) (more_patterns (binder 2) (more_patterns (binder 3) no_patterns))) in
    let body = node 1 (form.match_on (name 2 1) (more_cases nil (number 3 0) (more_cases cons filled no_cases))) in
    let printed = node 21 (form.print (name 22 7)) in
    let called = node 17 (form.let_in (binder 7) (node 18 (form.call (name 19 0) (name 20 6))) printed) in
    let built = node 13 (form.let_in (binder 6) (node 14 (form.build 8 Apart (pair (number 15 1) (name 16 5)))) called) in
    let made = node 11 (form.let_in (binder 5) (node 12 (form.build 7 Apart no_trees)) built) in
    record { place = at 40; form = let_rec_of 0 record { id = 0; place = at 0; parameter = binder 1; body = body } }
    ∷ record { place = at 41; form = let_of (pattern (at 41) nothing) made } ∷ []

-- the program is scalar, and its binders have twins
abbrev pub ListExampleIsScalar : Type 0
ListExampleIsScalar =
    IsScalarProgram list_annotation list_program × HaveTwins (binders (program_of list_annotation list_program).read)
