-- A scalar program: a recursive function that goes along an array, and a use of it in a tuple that is taken apart.
--     let rec find a i = if a.(i) < 1 then i else find a (i + 1)
--     let () = match (find (Array.make 3 0) 0, 1) with (x, y) -> print_int (x + y)
-- In normal form, with 0 to 2 for find, a and i, 9 and 10 for x and y, and 3 to 8 for made names:
--     let rec find = fun a -> fun i -> let c = a.(i) in if c < 1 then i else let f = find a in f (i + 1)
--     let () = let b = Array.make 3 0 in let g = find b in let j = g 0 in let p = (j, 1) in match p with (x, y) -> print_int (x + y)
use Rattle.std.specs.Prelude.{List, [], ◌∷◌, Some, None}
use Rattle.lq_refined_rules.specs.Checks.Binders.{binders}
use Rattle.lq_refined_rules.specs.Checks.Sample.{at}
use Rattle.lq_base_names.specs.declared.operation.ArithOp.TheVariants.{Add}
use Rattle.lq_base_names.specs.declared.operation.CompareOp.TheVariants.{Lt}
use Rattle.lq_refined_templates.specs.Points.Annotation.{Annotation}
use Rattle.lq_refined_templates.specs.Points.Reading.{program_of}
use Rattle.lq_refined_templates.specs.Points.Sample.{annotation, binder, name, node, number, pair}
use Rattle.lq_text_tree.specs.Items.{ItemTree, let_of, let_rec_of}
use Rattle.lq_text_tree.specs.MlType as ml
use Rattle.lq_text_tree.specs.MlType.{MlType}
use Rattle.lq_text_tree.specs.Pattern.{pattern, nothing, tuple_of, no_patterns, more_patterns}
use Rattle.lq_text_tree.specs.Tree as form
use Rattle.lq_text_tree.specs.Tree.{no_cases, more_cases}
use Rattle.lq_sound_scope.specs.Scalars.Scalar.{HaveTwins, IsScalarProgram}

abbrev pub counting : MlType
counting = ml.arrow ml.int ml.int

abbrev pub numbers : MlType
numbers = ml.array ml.int

abbrev pub finding : MlType
finding = ml.arrow numbers counting

abbrev pub two_numbers : MlType
two_numbers = ml.tuple (ml.more_types ml.int (ml.more_types ml.int ml.no_types))

abbrev pub example_annotation : Annotation
example_annotation =
    annotation
    ((Some 50, finding) ∷ (Some 51, numbers) ∷ (Some 52, ml.int) ∷ (None, ml.int) ∷ (None, counting) ∷ (None, numbers) ∷ (None, counting)
    ∷ (None, ml.int) ∷ (None, two_numbers) ∷ (Some 53, ml.int) ∷ (Some 54, ml.int) ∷ [])
    ((1, counting) ∷ (2, ml.int) ∷ (3, ml.int) ∷ (4, numbers) ∷ (5, ml.int) ∷ (6, ml.int) ∷ (7, ml.bool) ∷ (8, ml.int) ∷ (9, ml.int) ∷ (10, ml.int)
    ∷ (11, ml.int) ∷ (12, counting) ∷ (13, finding) ∷ (14, numbers) ∷ (15, ml.int) ∷ (16, counting) ∷ (17, ml.int) ∷ (18, ml.int) ∷ (19, ml.int)
    ∷ (21, numbers) ∷ (22, ml.int) ∷ (23, ml.int) ∷ (25, counting) ∷ (26, finding) ∷ (27, numbers) ∷ (29, ml.int) ∷ (30, counting) ∷ (31, ml.int)
    ∷ (33, two_numbers) ∷ (34, ml.int) ∷ (35, ml.int) ∷ (37, two_numbers) ∷ (39, ml.int) ∷ (40, ml.int) ∷ (41, ml.int) ∷ []) []

abbrev pub example_program : List ItemTree
example_program =
    let test = node 7 (form.compare Lt (name 8 3) (number 9 1)) in
    let again = node 15 (form.call (name 16 4) (node 17 (form.arithmetic Add (name 18 2) (number 19 1)))) in
    let other = node 11 (form.let_in (binder 4) (node 12 (form.call (name 13 0) (name 14 1))) again) in
    let body = node 2 (form.let_in (binder 3) (node 3 (form.fetch (name 4 1) (name 5 2))) (node 6 (form.if_else test (name 10 2) other))) in
    let printed = node 38 (form.print (node 39 (form.arithmetic Add (name 40 9) (name 41 10)))) in
    let names = pattern (at 42) (tuple_of (more_patterns (binder 9) (more_patterns (binder 10) no_patterns))) in
    let taken = node 36 (form.match_on (name 37 8) (more_cases names printed no_cases)) in
    let paired = node 32 (form.let_in (binder 8) (node 33 (form.tuple (pair (name 34 7) (number 35 1)))) taken) in
    let called = node 28 (form.let_in (binder 7) (node 29 (form.call (name 30 6) (number 31 0))) paired) in
    let found = node 24 (form.let_in (binder 6) (node 25 (form.call (name 26 0) (name 27 5))) called) in
    let made = node 20 (form.let_in (binder 5) (node 21 (form.make (number 22 3) (number 23 0))) found) in
    record { place = at 40; form = let_rec_of 0 record { id = 0; place = at 0; parameter = binder 1; body = node 1 (form.fun (binder 2) body) } }
    ∷ record { place = at 41; form = let_of (pattern (at 41) nothing) made } ∷ []

-- it is scalar, and its binders have twins
abbrev pub ExampleIsScalar : Type 0
ExampleIsScalar =
    IsScalarProgram example_annotation example_program × HaveTwins (binders (program_of example_annotation example_program).read)
