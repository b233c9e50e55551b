-- Two programs are simply typed, their binders differ, and their templates have the simple types of their points.
use Rattle.std.proofs.Common.{◌≡◌, ℕ, zero, suc, [], refl}
use Rattle.lq_refined_types.specs.Types.Refined.{erased}
use Rattle.lq_text_tree.specs.MlType.{int, MlTypes, no_types, more_types}
use Rattle.lq_text_tree.specs.Types.{list_type}
use Rattle.lq_refined_rules.specs.Checks.Binders.{binders, AllDiffer}
use Rattle.lq_refined_rules.specs.Checks.DataExamples.{list_basis, list_function, empty_arm, filled_arm, list_point, list_points}
use Rattle.lq_refined_rules.specs.Checks.Examples.{sample_basis, sample_program, sample_type, sample_points}
use Rattle.lq_refined_rules.specs.Checks.Typing.{AreTemplates, has_whole, has_use, has_add, has_subtract, has_compare, has_fields, has_pure, has_if, has_match, has_call, has_assert, has_last, has_binding, has_body, have_no_arms, have_arm, HasProgram, has_no_items, has_define_recursive, has_run_unit}

templates : (p : ℕ) → erased (sample_basis.template p) ≡ sample_type p
templates zero = refl
templates (suc p) = refl

pub sample_templates : AreTemplates sample_basis sample_points
sample_templates = record { templates = templates; type_arguments = λ i. refl }

pub sample_typed : HasProgram sample_basis sample_points [] sample_program
sample_typed =
    has_define_recursive
    (has_body {a = int} {c = int} refl
    (has_last
    (has_if (has_compare has_use has_whole) (has_last (has_pure has_whole))
    (has_binding {a = int} (has_call {a = int} has_use (has_subtract has_use has_whole)) tt
    (has_last (has_pure (has_add has_whole has_use)))))))
    (has_run_unit
    (has_binding {a = int} (has_call {a = int} has_use has_whole) tt (has_last (has_assert (has_compare has_whole has_use)))) has_no_items)

pub sample_differs : AllDiffer (binders sample_program)
sample_differs = ((refl, (refl, (refl, tt))), ((refl, (refl, tt)), ((refl, tt), (tt, tt))))

list_templates_are : (p : ℕ) → erased (list_basis.template p) ≡ list_point p
list_templates_are zero = refl
list_templates_are (suc p) = refl

pub list_templates : AreTemplates list_basis list_points
list_templates = record { templates = list_templates_are; type_arguments = λ i. refl }

-- the arguments of `list`
abbrev ints : MlTypes
ints = more_types int no_types

pub list_typed : HasProgram list_basis list_points [] (list_function (empty_arm filled_arm))
list_typed =
    has_define_recursive
    (has_body {a = list_type int} {c = int} refl
    (has_last
    (has_match
    (have_arm (has_fields {us = ints} refl refl refl) (has_last (has_pure has_whole))
    (have_arm (has_fields {us = ints} refl refl refl)
    (has_binding {a = int} (has_call {a = list_type int} has_use has_use) tt (has_last (has_pure (has_add has_use has_use))))
    have_no_arms)))))
    has_no_items

pub list_differs : AllDiffer (binders (list_function (empty_arm filled_arm)))
list_differs =
    ((refl, (refl, (refl, (refl, tt)))), ((refl, (refl, (refl, tt))), ((refl, (refl, tt)), ((refl, tt), (tt, tt)))))
