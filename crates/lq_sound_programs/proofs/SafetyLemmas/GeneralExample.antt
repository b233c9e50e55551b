-- A program with a definition of a general type, used at two instances of it, meets every condition.
use Rattle.std.proofs.Common.{◌≡◌, ℕ, true, false, refl, [], Some, inl}
use Rattle.lq_base_names.specs.declared.operation.CompareOp.TheVariants as op
use Rattle.lq_refined_types.specs.Parts.Assignment.{Assignment}
use Rattle.lq_refined_types.specs.Parts.Part.{Parts}
use Rattle.lq_text_tree.specs.MlType as ml
use Rattle.lq_refined_types.specs.Types.Context.{Context}
use Rattle.lq_refined_types.specs.Types.Operations.{symbol_of}
use Rattle.lq_refined_types.specs.Types.Refined.{Refined, int_with, bool_with, unit_type, type_variable}
use Rattle.lq_refined_types.specs.Subtyping.Subtype.{Setting, IsSubtype, sub, in_int, in_bool, in_unit, in_variable}
use Rattle.lq_refined_rules.specs.Checks.Checks.{Checks, obeys_pure, obeys_fun, obeys_if, obeys_call, obeys_print, against_last, against_binding, gives_last, checks_none, checks_define, checks_unit}
use Rattle.lq_refined_rules.specs.Checks.Operation.{type_of, bind}
use Rattle.lq_refined_rules.specs.Checks.Pure.{type_of_use}
use Rattle.lq_refined_rules.specs.Checks.Sample.{variable, amount}
use Rattle.lq_refined_rules.specs.Checks.Tree.{Use, compare, call}
use Rattle.lq_refined_rules.specs.Checks.Typing.{AreTemplates, HasProgram, has_use, has_whole, has_compare, has_pure, has_fun, has_if, has_call, has_print, has_last, has_binding, end_last, has_no_items, has_define, has_run_unit}
use Rattle.lq_sound_values.specs.Inhabitants.Truth.{Scene}
use Rattle.lq_sound_values.specs.Inclusion.Apart.{Apart}
use Rattle.lq_sound_values.specs.Inclusion.Laws.{IsScene}
use Rattle.lq_sound_values.specs.Runs.Closed.{Binds}
use Rattle.lq_sound_values.proofs.RunsLemmas.Closing.{closed_bind}
use Rattle.lq_sound_forms.specs.Pures.Pures.{scene_of, UseOver}
use Rattle.lq_sound_forms.specs.Calls.Operands.{IsTwinReady}
use Rattle.lq_sound_programs.specs.Safety.Example.{objects_by_length, no_instances}
use Rattle.lq_sound_programs.specs.Safety.GeneralExample.{general_basis, general_points, id_at, id_block, uses_block, general_program, GeneralExampleHasAll}
use Rattle.lq_sound_programs.specs.Safety.Programs.{IsScopedGiven, IsScopedProgram, no_symbols}
use Rattle.lq_sound_programs.specs.Safety.Scoped.{IsScoped, IsScopedBlock}
use Rattle.lq_sound_programs.proofs.SafetyLemmas.Example.{covariant}

abbrev S : Scene
S = scene_of general_basis no_instances objects_by_length

scene : IsScene S
scene = record { covariant = covariant; scoped = λ u. tt }

no_flow : true ≡ false → ⊥
no_flow e = cc

no_term : false ≡ true → ⊥
no_term e = cc

-- ---- simple types

templates : AreTemplates general_basis general_points
templates = record { templates = λ p. refl; type_arguments = λ i. refl }

typed : HasProgram general_basis general_points [] general_program
typed =
    has_define {a = ml.arrow (ml.var 0) (ml.var 0)} (λ e. refl) (end_last (has_fun {a = ml.var 0} (has_last (has_pure has_use))) refl)
    (has_run_unit
    (has_binding {a = ml.int} (has_call {a = ml.int} has_use has_whole) tt
    (has_binding {a = ml.bool} (has_call {a = ml.bool} has_use (has_compare has_use has_whole)) tt
    (has_last (has_if has_use (has_last (has_print has_use)) (has_last (has_print has_whole))))))
    has_no_items)

-- ---- the rules

checked : Checks general_basis no_instances [] general_program
checked =
    checks_define (gives_last (obeys_fun tt (against_last obeys_pure (λ e. sub tt in_variable))))
    (λ e. absurd (no_term e)) tt
    (checks_unit
    (against_binding (obeys_call (sub tt in_int)) (refl, tt)
    (against_binding (obeys_call (sub tt in_bool)) (refl, (refl, tt))
    (against_last
    (obeys_if (against_last obeys_print (λ e. sub tt in_unit)) (against_last obeys_print (λ e. sub tt in_unit)))
    (λ e. absurd (no_flow e)))))
    checks_none)

-- ---- names in scope

unit_apart : {P : Setting} {B : Assignment} {Γ : Context} (d : IsSubtype P B Γ unit_type unit_type) → Apart S d
unit_apart (sub t in_unit) = tt

int_apart : {P : Setting} {B : Assignment} {Γ : Context} {p q : Parts} (d : IsSubtype P B Γ (int_with p) (int_with q)) → Apart S d
int_apart (sub t in_int) = tt

bool_apart : {P : Setting} {B : Assignment} {Γ : Context} {p q : Parts} (d : IsSubtype P B Γ (bool_with p) (bool_with q)) → Apart S d
bool_apart (sub t in_bool) = tt

variable_apart : {P : Setting} {B : Assignment} {Γ : Context} {i j : ℕ} (d : IsSubtype P B Γ (type_variable i) (type_variable j)) → Apart S d
variable_apart (sub t in_variable) = tt

-- id; and then n and b
abbrev with_id : Context
with_id = bind 30 (general_basis.template 0) []

abbrev number_type : Refined
number_type = type_of general_basis with_id (call (id_at 0) (amount 3))

abbrev with_number : Context
with_number = bind 32 number_type with_id

abbrev truth_type : Refined
truth_type = type_of general_basis with_number (call (id_at 1) (compare op.Lt (variable 32) (amount 5)))

abbrev with_truth : Context
with_truth = bind 33 truth_type with_number

argument_binds : Binds S (symbol_of 31) (type_variable 0) []
argument_binds = (refl, tt, ((tt, tt), tt), tt)

id_binds : Binds S (symbol_of 30) (general_basis.template 0) []
id_binds = (refl, tt, (((tt, tt, tt, tt), tt), tt), tt)

number_binds : Binds S (symbol_of 32) number_type with_id
number_binds = (refl, (refl, tt), ((tt, tt), tt), closed_bind S (symbol_of 30) (general_basis.template 0) [] id_binds)

truth_binds : Binds S (symbol_of 33) truth_type with_number
truth_binds = (refl, (refl, (refl, tt)), ((tt, tt), tt), closed_bind S (symbol_of 32) number_type with_id number_binds)

-- the use of `id` at the i-th types
abbrev id_use : ℕ → Use
id_use i = record { name = 30; type_arguments = Some i }

number_over : UseOver general_basis no_instances with_id (id_use 0)
number_over = (refl, (((tt, tt), tt), (refl, tt, tt)))

truth_over : UseOver general_basis no_instances with_number (id_use 1)
truth_over = (refl, (((tt, tt), tt), (refl, tt, tt)))

number_ready : IsTwinReady S with_id (type_of_use general_basis with_id (id_use 0))
number_ready =
    record {
      over = no_symbols;
      on = ((tt, tt, tt, tt), tt);
      apart = (refl, refl, inl tt, tt, tt);
      kinds = ((λ e k. absurd (no_term e)), tt, tt);
      outside = (refl, tt, tt);
    }

truth_ready : IsTwinReady S with_number (type_of_use general_basis with_number (id_use 1))
truth_ready =
    record {
      over = no_symbols;
      on = ((tt, tt, tt, tt), tt);
      apart = (refl, refl, inl tt, tt, tt);
      kinds = ((λ e k. absurd (no_term e)), tt, tt);
      outside = (refl, tt, tt);
    }

id_scoped : IsScopedGiven general_basis no_instances objects_by_length [] id_block
id_scoped = (refl, argument_binds, (((refl, tt), tt), (λ e d. variable_apart d)))

number_scoped : IsScoped general_basis no_instances objects_by_length with_id (call (id_at 0) (amount 3)) number_type
number_scoped = ((number_over, number_ready), (tt, tt), (λ d. int_apart d))

truth_scoped : IsScoped general_basis no_instances objects_by_length with_number (call (id_at 1) (compare op.Lt (variable 32) (amount 5))) truth_type
truth_scoped = ((truth_over, truth_ready), (((refl, tt), tt), tt), (λ d. bool_apart d))

uses_scoped : IsScopedBlock general_basis no_instances objects_by_length with_id uses_block unit_type
uses_scoped = (
  number_scoped,
  number_binds,
  (tt, tt),
  (
    truth_scoped,
    truth_binds,
    (tt, tt),
    (((refl, tt), ((refl, tt), (λ e d. unit_apart d)), (tt, (λ e d. unit_apart d))), (λ e d. absurd (no_flow e))),
  ),
)

scoped : IsScopedProgram general_basis no_instances objects_by_length no_symbols [] general_program
scoped = (
  (refl, tt),
  id_scoped,
  id_binds,
  inl tt,
  ((((refl, refl), tt), (((refl, refl), ((refl, tt), tt)), ((refl, tt), (refl, tt), tt))), uses_scoped, tt),
)

pub has_all : GeneralExampleHasAll
has_all = (scene, (λ r n. refl), templates, typed, checked, scoped)
