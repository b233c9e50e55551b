-- A program meets every condition.
use Rattle.std.proofs.Common.{◌≡◌, ℕ, Bool, true, false, if◌then◌else◌, ◌==◌, refl, sym, subst, ◌∙◌, List, [], ◌∷◌, Some, None, ◌⊎◌, inl, inr}
use Rattle.lq_refined_types.specs.Parts.Assignment.{Assignment}
use Rattle.lq_base_names.specs.declared.operation.CompareOp.TheVariants as op
use Rattle.lq_logic_predicates.specs.Formula.{flag}
use Rattle.lq_logic_predicates.specs.declared.symbol.Symbol.TheVariants as symbol
use Rattle.lq_refined_types.specs.Types.Context.{Context, guard}
use Rattle.lq_refined_types.specs.Types.Operations.{symbol_of}
use Rattle.lq_refined_types.specs.Types.Refined.{Refined, int_with, bool_with, unit_type}
use Rattle.lq_refined_types.specs.Parts.Part.{Parts, known}
use Rattle.lq_refined_rules.specs.Checks.Operation.{bind}
use Rattle.lq_refined_rules.specs.Checks.Pure.{pure_type}
use Rattle.lq_refined_rules.specs.Checks.Sample.{at, variable, amount}
use Rattle.lq_refined_rules.specs.Checks.Tree.{compare, last, if_else, call, print}
use Rattle.lq_sound_forms.specs.Calls.Operands.{IsTwinReady}
use Rattle.lq_sound_values.specs.Runs.Closed.{IsClosed, Binds}
use Rattle.lq_sound_values.proofs.RunsLemmas.Closing.{closed_bind}
use Rattle.lq_text_tree.specs.MlType as ml
use Rattle.lq_text_tree.specs.Types.{Constructor}
use Rattle.lq_text_tree.specs.Signatures.{constructor_in, predeclared}
use Rattle.lq_refined_types.specs.Subtyping.Subtype.{Setting, IsSubtype, sub, in_bool, in_unit}
use Rattle.lq_refined_rules.specs.Checks.Checks.{Checks, obeys_pure, obeys_fun, obeys_if, obeys_call, obeys_assert, obeys_read, obeys_print, against_last, against_binding, gives_last, checks_none, checks_define, checks_unit}
use Rattle.lq_refined_rules.specs.Checks.Typing.{AreTemplates, HasProgram, has_use, has_unit, has_whole, has_compare, has_pure, has_fun, has_if, has_call, has_assert, has_read, has_print, has_last, has_binding, end_last, has_no_items, has_define, has_run_unit}
use Rattle.lq_sound_values.specs.Inhabitants.Truth.{Scene}
use Rattle.lq_sound_values.specs.Inhabitants.Datatypes.{AllCovariantIn, AnyVariable, AreCovariant}
use Rattle.lq_sound_values.specs.Inclusion.Apart.{Apart}
use Rattle.lq_sound_values.specs.Inclusion.Laws.{IsScene}
use Rattle.lq_sound_forms.specs.Pures.Pures.{scene_of}
use Rattle.lq_sound_programs.specs.Safety.Example.{objects_by_length, example_basis, example_points, example_program, no_instances, ExampleHasAll}
use Rattle.lq_sound_programs.specs.Safety.Programs.{IsScopedProgram, no_symbols}
use Rattle.lq_sound_programs.specs.Safety.Scoped.{IsScoped}

no_flow : true ≡ false → ⊥
no_flow e = cc

no_term : false ≡ true → ⊥
no_term e = cc

differ : {b : Bool} → b ≡ true → b ≡ false → ⊥
differ e f = no_flow (sym e ∙ f)

-- ---- its types of constructors

abbrev AllFields : List (ℕ × Constructor) → Type 0
AllFields [] = Unit {0}
AllFields (m ∷ ms) = AllCovariantIn AnyVariable m.1.fields × AllFields ms

some_same : (a b : Constructor) → Some a ≡ Some b → a ≡ b
some_same a b e = cc

no_constructor : (k : Constructor) → None ≡ Some k → ⊥
no_constructor k e = cc

in_list : (ms : List (ℕ × Constructor)) → AllFields ms → (c : ℕ) (k : Constructor) → constructor_in ms c ≡ Some k → AllCovariantIn AnyVariable k.fields
in_list [] a c k e = absurd (no_constructor k e)
in_list (m ∷ ms) a c k e = by_case (m.0 == c) (in_list ms a.1 c k) e
  where
    by_case : (b : Bool) → (constructor_in ms c ≡ Some k → AllCovariantIn AnyVariable k.fields) → (if b then Some m.1 else constructor_in ms c) ≡ Some k → AllCovariantIn AnyVariable k.fields
    by_case true f h = subst (λ q. AllCovariantIn AnyVariable q.fields) (some_same m.1 k h) a.0
    by_case false f h = f h

pub covariant : AreCovariant example_basis.setting.constructors
covariant c k e = in_list predeclared (tt, ((tt, ((tt, tt), tt)), (tt, ((tt, tt), tt)))) c k e

scene : IsScene (scene_of example_basis no_instances objects_by_length)
scene = record { covariant = covariant; scoped = λ u. tt }

-- ---- simple types

templates : AreTemplates example_basis example_points
templates = record { templates = λ p. refl; type_arguments = λ i. refl }

typed : HasProgram example_basis example_points [] example_program
typed =
    has_define {a = ml.arrow ml.bool ml.unit} (λ e. refl) (end_last (has_fun {a = ml.bool} (has_last (has_assert has_use))) refl)
    (has_run_unit
    (has_binding {a = ml.int} (has_read has_unit) tt
    (has_binding {a = ml.bool} (has_pure (has_compare has_use has_whole)) tt
    (has_last (has_if has_use (has_last (has_call {a = ml.bool} has_use has_use)) (has_last (has_print has_use))))))
    has_no_items)

-- ---- the rules

-- from `b` and `v <=> b` follows `v`
follows : {v b : Bool} → b ≡ true → ((v ≡ true) × ((b ≡ true) × Unit {0})) ⊎ ((v ≡ false) × ((b ≡ false) × Unit {0})) ⊎ ⊥ → v ≡ false → ⊥
follows h (inl both) n = differ both.0 n
follows h (inr (inl neither)) n = differ h neither.1.0
follows h (inr (inr none)) n = none

checked : Checks example_basis no_instances [] example_program
checked =
    checks_define (gives_last (obeys_fun tt (against_last (obeys_assert (λ p is h n. differ h.0 n)) (λ e. sub tt in_unit))))
    (λ e. absurd (no_term e)) tt
    (checks_unit
    (against_binding obeys_read (refl, tt)
    (against_binding obeys_pure (refl, (refl, tt))
    (against_last
    (obeys_if
    (against_last
    (obeys_call
    (sub
    ((λ p is h n. follows h.1.0 h.1.1.0 n), tt) in_bool))
    (λ e. sub tt in_unit))
    (against_last obeys_print (λ e. sub tt in_unit)))
    (λ e. absurd (no_flow e)))))
    checks_none)

-- ---- names in scope

unit_apart : (S : Scene) {P : Setting} {B : Assignment} {Γ : Context} (d : IsSubtype P B Γ unit_type unit_type) → Apart S d
unit_apart S (sub t in_unit) = tt

bool_apart : (S : Scene) {P : Setting} {B : Assignment} {Γ : Context} {p q : Parts} (d : IsSubtype P B Γ (bool_with p) (bool_with q)) → Apart S d
bool_apart S (sub t in_bool) = tt

-- f; and then n, b, and the branch where b is true
abbrev with_function : Context
with_function = bind 10 (example_basis.template 0) []

abbrev with_number : Context
with_number = bind 13 (int_with []) with_function

abbrev with_truth : Context
with_truth = bind 14 (pure_type example_basis with_number (compare op.Lt (variable 13) (amount 100))) with_number

abbrev in_branch : Context
in_branch = guard (known (flag (symbol_of 14))) ∷ with_truth

abbrev S : Scene
S = scene_of example_basis no_instances objects_by_length

abbrev ClosedHere : Context → Type 0
ClosedHere = IsClosed S

abbrev BindsHere : ℕ → Refined → Context → Type 0
BindsHere x t Γ = Binds S (symbol_of x) t Γ

function_binds : BindsHere 10 (example_basis.template 0) []
function_binds = (refl, tt, (((tt, (refl, tt), tt, tt), tt), tt), tt)

function_closed : ClosedHere with_function
function_closed = closed_bind S (symbol_of 10) (example_basis.template 0) [] function_binds

number_binds : BindsHere 13 (int_with []) with_function
number_binds = (refl, (refl, tt), ((tt, tt), tt), function_closed)

number_closed : ClosedHere with_number
number_closed = closed_bind S (symbol_of 13) (int_with []) with_function number_binds

truth_binds : BindsHere 14 (pure_type example_basis with_number (compare op.Lt (variable 13) (amount 100))) with_number
truth_binds = (refl, (refl, (refl, tt)), ((tt, ((refl, (refl, tt)), tt)), ((refl, (refl, tt)), tt)), number_closed)

argument_binds : BindsHere 12 (bool_with (known (flag symbol.Value) ∷ [])) []
argument_binds = (refl, tt, ((tt, (refl, tt)), (refl, tt)), tt)

function_ready : IsTwinReady (scene_of example_basis no_instances objects_by_length) in_branch (example_basis.template 0)
function_ready =
    record {
      over = no_symbols;
      on = ((tt, (refl, tt), tt, tt), tt);
      apart = (refl, refl, inl tt, tt, tt);
      kinds = ((λ e k. absurd (no_term e)), tt, tt);
      outside = (refl, tt, tt);
    }

branches_scoped : IsScoped example_basis no_instances objects_by_length with_truth (if_else 1 (variable 14) (last (at 7) (call (variable 10) (variable 14))) (last (at 8) (print (variable 13)))) unit_type
branches_scoped = (
  (refl, tt),
  (
    (((refl, tt), function_ready), ((refl, tt), tt), (λ d. bool_apart S d)),
    (λ e d. unit_apart S d),
  ),
  ((refl, tt), (λ e d. unit_apart S d)),
)

scoped : IsScopedProgram example_basis no_instances objects_by_length no_symbols [] example_program
scoped = (
  (refl, tt),
  (refl, argument_binds, ((refl, tt), (λ e d. unit_apart S d))),
  function_binds,
  inl tt,
  (
    (tt, (((refl, tt), tt), ((refl, tt), ((refl, tt), (refl, tt)), (refl, tt)))),
    (
      tt,
      number_binds,
      (tt, tt),
      ((((refl, tt), tt), tt), truth_binds, (tt, tt), (branches_scoped, (λ e d. absurd (no_flow e)))),
    ),
    tt,
  ),
)

pub has_all : ExampleHasAll
has_all = (scene, (λ r n. refl), templates, typed, checked, scoped)
