-- A scalar program with a generalised definition: a function that applies another, used at numbers, and at truth values.
--     let use = fun f -> fun x -> f x
--     let not = fun c -> not c
--     let next = fun i -> i + 1
--     let () = let a = use next in let n = a 1 in let b = use not in let t = b true in assert t
-- In normal form, with 0 to 6 for use, f, x, not, c, next and i, and 7 to 10 for a, n, b and t.
use Rattle.std.specs.Prelude.{◌≡◌, true, List, [], ◌∷◌, Some}
use Rattle.lq_refined_rules.specs.Checks.Binders.{binders}
use Rattle.lq_refined_rules.specs.Checks.Sample.{at}
use Rattle.lq_base_names.specs.declared.operation.ArithOp.TheVariants.{Add}
use Rattle.lq_refined_templates.specs.Points.Annotation.{Annotation, arguments_at}
use Rattle.lq_refined_templates.specs.Points.Reading.{program_of}
use Rattle.lq_refined_templates.specs.Points.Sample.{annotation, binder, name, node, number}
use Rattle.lq_sound_programs.specs.Safety.Programs.{no_symbols}
use Rattle.lq_text_tree.specs.Items.{ItemTree, let_of}
use Rattle.lq_text_tree.specs.MlType as ml
use Rattle.lq_text_tree.specs.MlType.{MlType, MlTypes}
use Rattle.lq_text_tree.specs.Pattern.{pattern, nothing}
use Rattle.lq_text_tree.specs.Tree as form
use Rattle.lq_sound_scope.specs.Scalars.Scalar.{HaveTwins, IsScalarProgram}
use Rattle.lq_sound_scope.specs.Scalars.Uses.{ProgramUsesBefore}

abbrev pub same : MlType → MlType
same a = ml.arrow a a

-- of the general function, with a type for both variables
abbrev pub applying : MlType → MlType → MlType
applying a b = ml.arrow (ml.arrow a b) (ml.arrow a b)

abbrev pub two : MlType → MlTypes
two a = ml.more_types a (ml.more_types a ml.no_types)

abbrev pub general_annotation : Annotation
general_annotation =
    let a = ml.var 0 in
    let b = ml.var 1 in
    annotation
    ((Some 50, applying a b) ∷ (Some 51, ml.arrow a b) ∷ (Some 52, a) ∷ (Some 53, same ml.bool) ∷ (Some 54, ml.bool) ∷ (Some 55, same ml.int)
    ∷ (Some 56, ml.int) ∷ (Some 57, same ml.int) ∷ (Some 58, ml.int) ∷ (Some 60, same ml.bool) ∷ (Some 61, ml.bool) ∷ [])
    ((1, applying a b) ∷ (2, ml.arrow a b) ∷ (3, b) ∷ (4, ml.arrow a b) ∷ (5, a) ∷ (6, same ml.bool) ∷ (7, ml.bool) ∷ (8, ml.bool) ∷ (9, same ml.int)
    ∷ (10, ml.int) ∷ (11, ml.int) ∷ (12, ml.int) ∷ (14, same ml.int) ∷ (15, applying ml.int ml.int) ∷ (16, same ml.int) ∷ (18, ml.int)
    ∷ (19, same ml.int) ∷ (20, ml.int) ∷ (22, same ml.bool) ∷ (23, applying ml.bool ml.bool) ∷ (24, same ml.bool) ∷ (26, ml.bool)
    ∷ (27, same ml.bool) ∷ (28, ml.bool) ∷ (30, ml.bool) ∷ [])
    ((15, two ml.int) ∷ (23, two ml.bool) ∷ [])

abbrev pub general_program : List ItemTree
general_program =
    let applied = node 1 (form.fun (binder 1) (node 2 (form.fun (binder 2) (node 3 (form.call (name 4 1) (name 5 2)))))) in
    let denied = node 6 (form.fun (binder 4) (node 7 (form.not_of (name 8 4)))) in
    let next = node 9 (form.fun (binder 6) (node 10 (form.arithmetic Add (name 11 6) (number 12 1)))) in
    let asserted = node 29 (form.assert (name 30 10)) in
    let truth = node 25 (form.let_in (binder 10) (node 26 (form.call (name 27 9) (node 28 (form.flag true)))) asserted) in
    let second = node 21 (form.let_in (binder 9) (node 22 (form.call (name 23 0) (name 24 3))) truth) in
    let count = node 17 (form.let_in (binder 8) (node 18 (form.call (name 19 7) (number 20 1))) second) in
    let first = node 13 (form.let_in (binder 7) (node 14 (form.call (name 15 0) (name 16 5))) count) in
    record { place = at 40; form = let_of (binder 0) applied } ∷ record { place = at 41; form = let_of (binder 3) denied }
    ∷ record { place = at 42; form = let_of (binder 5) next } ∷ record { place = at 43; form = let_of (pattern (at 43) nothing) first } ∷ []

-- it is scalar, its binders have twins, and its two uses at types are of a name that an earlier item defined
abbrev pub GeneralExampleIsScalar : Type 0
GeneralExampleIsScalar =
    let p = (program_of general_annotation general_program).read in
    IsScalarProgram general_annotation general_program × HaveTwins (binders p) × ProgramUsesBefore no_symbols p
    × (arguments_at general_annotation 15 0 ≡ Some (two ml.int)) × (arguments_at general_annotation 23 0 ≡ Some (two ml.bool))
