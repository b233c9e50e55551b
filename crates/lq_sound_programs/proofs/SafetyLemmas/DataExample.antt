-- A program with a list, a tuple and matches meets every condition.
use Rattle.std.proofs.Common.{◌≡◌, ℕ, zero, suc, ◌+◌, pos, Bool, true, false, if◌then◌else◌, ◌==◌, [], ◌∷◌, Some, None, inl, inr, refl, sym, ap, ◌∙◌, subst, arith as numbers}
use Rattle.std.proofs.lemmas.Bool.{eqb-true}
use Rattle.std.proofs.lemmas.Bool.Decides.{Decides-int_eq}
use Rattle.lq_logic_predicates.specs.ClosedImplication.{EachTrueIn}
use Rattle.lq_logic_predicates.specs.declared.symbol.Symbol.TheVariants as symbol
use Rattle.lq_meaning_steps.specs.Model.Core.{Value, v_whole, v_flag, v_unit, v_fun, v_rec, v_tuple, v_array, v_build, Values, no_values, more_values}
use Rattle.lq_refined_types.specs.Parts.Assignment.{Assignment}
use Rattle.lq_refined_types.specs.Parts.Part.{Parts}
use Rattle.lq_text_tree.specs.MlType as ml
use Rattle.lq_text_tree.specs.MlType.{MlTypes}
use Rattle.lq_text_tree.specs.Types.{Constructor}
use Rattle.lq_refined_types.specs.Types.Context.{Context}
use Rattle.lq_refined_types.specs.Types.Refined.{Refined, int_with, unit_type, data_with, none, more, top, type_at, arguments_of}
use Rattle.lq_refined_types.specs.Types.Operations.{symbol_of}
use Rattle.lq_refined_types.specs.Types.Unfolding.{unfolded}
use Rattle.lq_refined_types.specs.Subtyping.Subtype.{Setting, fields_of, IsSubtype, sub, in_int, in_unit, in_data, sub_none, sub_more}
use Rattle.lq_refined_rules.specs.Checks.Checks.{Checks, obeys_pure, obeys_data_match, obeys_other_match, obeys_tuple, obeys_build, obeys_print, against_last, against_binding, cases_none, cases_more, case_here, case_later, default_none, default_later, first_arm, checks_none, checks_unit}
use Rattle.lq_refined_rules.specs.Checks.Operation.{type_of, bind}
use Rattle.lq_refined_rules.specs.Checks.Ready.{Where}
use Rattle.lq_refined_rules.specs.Checks.Sample.{variable, amount, sizes}
use Rattle.lq_refined_rules.specs.Checks.Tree.{tuple, build}
use Rattle.lq_refined_rules.specs.Checks.Typing.{AreTemplates, HasProgram, has_unit, has_whole, has_use, have_none, have_more, has_components, has_fields, has_pure, has_match, has_tuple, has_build, has_print, has_last, has_binding, have_no_arms, have_arm, has_no_items, has_run_unit}
use Rattle.lq_sound_values.specs.Inhabitants.Truth.{given, as_object, meaning_of, Scene}
use Rattle.lq_sound_values.specs.Inhabitants.Shut.{field_values}
use Rattle.lq_sound_values.specs.Inhabitants.Inhabits.{Makes}
use Rattle.lq_sound_values.specs.Inclusion.Apart.{MayBindFields, AreCellsApart, Apart}
use Rattle.lq_sound_values.specs.Inclusion.Laws.{IsScene}
use Rattle.lq_sound_values.specs.Inclusion.Symbols.{Lacks}
use Rattle.lq_sound_values.specs.Runs.Closed.{IsClosed, Binds}
use Rattle.lq_sound_values.proofs.RunsLemmas.Closing.{closed_bind}
use Rattle.lq_sound_forms.specs.Pures.Pures.{scene_of}
use Rattle.lq_sound_forms.specs.Calls.Operands.{IsTwinReady}
use Rattle.lq_sound_forms.specs.Fields.Fields.{KnowsMeasures, IsDatatypeFor}
use Rattle.lq_sound_programs.specs.Safety.DataExample.{number_by_size, objects_by_size, numbers_type, data_basis, data_points, list_block, tuple_block, data_program, DataExampleHasAll}
use Rattle.lq_sound_programs.specs.Safety.Example.{no_instances}
use Rattle.lq_sound_programs.specs.Safety.Programs.{IsScopedProgram, no_symbols}
use Rattle.lq_sound_programs.specs.Safety.Scoped.{IsIn, ListsConstructors, IsScopedBlock}
use Rattle.lq_sound_programs.proofs.SafetyLemmas.Example.{covariant}

scene : IsScene (scene_of data_basis no_instances objects_by_size)
scene = record { covariant = covariant; scoped = λ u. tt }

-- ---- objects

-- an object's number is that of the value
number_is : (u : Value) → as_object objects_by_size (Some u) ≡ number_by_size u
number_is (v_whole n) = refl
number_is (v_flag b) = refl
number_is v_unit = refl
number_is (v_fun q b) = refl
number_is (v_rec f q b) = refl
number_is (v_tuple vs) = refl
number_is (v_array r n) = refl
number_is (v_build c vs) = refl

one_more : (n m : ℕ) → m ≡ n → pos (suc n) ≡ pos (1 + m)
one_more n m e = ap pos (omega (numbers, e))

empty_known : (vs : Values) → EachTrueIn (meaning_of objects_by_size (given symbol.Value (v_build 7 vs) ∷ field_values 0 vs)) (sizes 7)
empty_known vs = (refl, tt)

filled_known : (vs : Values) → EachTrueIn (meaning_of objects_by_size (given symbol.Value (v_build 8 vs) ∷ field_values 0 vs)) (sizes 8)
filled_known no_values = (refl, tt)
filled_known (more_values v no_values) = (refl, tt)
filled_known (more_values v (more_values u us)) =
    ((Decides-int_eq (pos (suc (number_by_size u))) (pos (1 + as_object objects_by_size (Some u)))).1 (one_more (number_by_size u) (as_object objects_by_size (Some u)) (number_is u)), tt)

pub knows : KnowsMeasures data_basis objects_by_size
knows c vs = by_test (c == 7) (c == 8) refl refl
  where
    by_test : (y z : Bool) → (c == 7) ≡ y → (c == 8) ≡ z → EachTrueIn (meaning_of objects_by_size (given symbol.Value (v_build c vs) ∷ field_values 0 vs)) (sizes c)
    by_test true z e h =
        subst (λ b. EachTrueIn (meaning_of objects_by_size (given symbol.Value (v_build b vs) ∷ field_values 0 vs)) (sizes b)) (sym (eqb-true c 7 e)) (empty_known vs)
    by_test false true e h =
        subst (λ b. EachTrueIn (meaning_of objects_by_size (given symbol.Value (v_build b vs) ∷ field_values 0 vs)) (sizes b)) (sym (eqb-true c 8 h)) (filled_known vs)
    by_test false false e h =
        subst (EachTrueIn (meaning_of objects_by_size (given symbol.Value (v_build c vs) ∷ field_values 0 vs))) (sym (ap (λ b. if b then sizes 7 else if c == 8 then sizes 8 else []) e ∙ ap (λ b. if b then sizes 8 else []) h)) tt

-- ---- constructors

some_same : (a b : Constructor) → Some a ≡ Some b → a ≡ b
some_same a b e = cc

none_some : (k : Constructor) → None ≡ Some k → ⊥
none_some k e = cc

abbrev pub empty_list : Constructor
empty_list = record { datatype = 4; parameters = 1; fields = ml.no_types }

abbrev pub filled_list : Constructor
filled_list = record { datatype = 4; parameters = 1; fields = ml.more_types (ml.var 0) (ml.more_types (ml.named 4 (ml.more_types (ml.var 0) ml.no_types)) ml.no_types) }

abbrev no_option : Constructor
no_option = record { datatype = 5; parameters = 1; fields = ml.no_types }

abbrev some_option : Constructor
some_option = record { datatype = 5; parameters = 1; fields = ml.more_types (ml.var 0) ml.no_types }

-- by the constructor's name
by_name : (R : ℕ → Constructor → Type 0) → R 7 empty_list → R 8 filled_list → R 9 no_option → R 10 some_option → (c : ℕ) (k : Constructor) → data_basis.setting.constructors c ≡ Some k → R c k
by_name R r7 r8 r9 r10 c k e = by_test (7 == c) (8 == c) (9 == c) (10 == c) refl refl refl refl e
  where
    by_test : (x y z w : Bool) → (7 == c) ≡ x → (8 == c) ≡ y → (9 == c) ≡ z → (10 == c) ≡ w → (if x then Some empty_list else if y then Some filled_list else if z then Some no_option else if w then Some some_option else None) ≡ Some k → R c k
    by_test true y z w p q r s h = subst (R c) (some_same empty_list k h) (subst (λ i. R i empty_list) (eqb-true 7 c p) r7)
    by_test false true z w p q r s h = subst (R c) (some_same filled_list k h) (subst (λ i. R i filled_list) (eqb-true 8 c q) r8)
    by_test false false true w p q r s h = subst (R c) (some_same no_option k h) (subst (λ i. R i no_option) (eqb-true 9 c r) r9)
    by_test false false false true p q r s h = subst (R c) (some_same some_option k h) (subst (λ i. R i some_option) (eqb-true 10 c s) r10)
    by_test false false false false p q r s h = absurd (none_some k h)

pub listed : ListsConstructors data_basis
listed c k e = by_name (λ i j. IsIn (data_basis.constructors_of j.datatype) i) (inl refl) (inr (inl refl)) (inl refl) (inr (inl refl)) c k e

no_top : (i j : ℕ) → Lacks no_instances (symbol.Position (suc j)) (top (type_at (more (int_with []) none) i))
no_top zero j = tt
no_top (suc i) j = tt

empty_good : (p : Parts) → IsDatatypeFor (scene_of data_basis no_instances objects_by_size) data_basis 7 empty_list (data_with 4 (more (int_with []) none) [] p)
empty_good p =
    record { matrix = record { entries = λ j i. tt; variables = λ j. (tt, tt); tops = no_top }; equations = ((refl, tt), tt) }

filled_good : (p : Parts) → IsDatatypeFor (scene_of data_basis no_instances objects_by_size) data_basis 8 filled_list (data_with 4 (more (int_with []) none) [] p)
filled_good p =
    record { matrix = record { entries = λ j i. tt; variables = λ j. (tt, tt); tops = no_top }; equations = ((refl, (tt, refl)), tt) }

other_type : no_option.datatype ≡ empty_list.datatype → ⊥
other_type e = omega (numbers, e)

pub all_good : (p : Parts) (c : ℕ) (k : Constructor) → Makes data_basis.setting.constructors 4 c k → IsDatatypeFor (scene_of data_basis no_instances objects_by_size) data_basis c k (data_with 4 (more (int_with []) none) [] p)
all_good p c k h =
    by_name (λ i j. j.datatype ≡ 4 → IsDatatypeFor (scene_of data_basis no_instances objects_by_size) data_basis i j (data_with 4 (more (int_with []) none) [] p)) (λ e. empty_good p) (λ e. filled_good p) (λ e. absurd (other_type e)) (λ e. absurd (other_type e)) c k h.0 h.1

pub at_name : (c : ℕ) (j : Constructor) → data_basis.setting.constructors c ≡ Some j → j.datatype ≡ 4 → (k : Constructor) → data_basis.setting.constructors c ≡ Some k → IsDatatypeFor (scene_of data_basis no_instances objects_by_size) data_basis c k numbers_type
at_name c j at e k h = all_good [] c k (h, sym (ap (λ z. z.datatype) (some_same j k (sym at ∙ h))) ∙ e)

-- ---- simple types

templates : AreTemplates data_basis data_points
templates = record { templates = λ p. refl; type_arguments = λ i. refl }

typed : HasProgram data_basis data_points [] data_program
typed =
    has_run_unit
    (has_binding {a = ml.named 4 (ml.more_types ml.int ml.no_types)} (has_build {k = empty_list} refl refl refl have_none) tt
    (has_binding {a = ml.named 4 (ml.more_types ml.int ml.no_types)} (has_build {k = filled_list} refl refl refl (have_more has_whole (have_more has_use have_none))) tt
    (has_last
    (has_match
    (have_arm (has_fields {k = empty_list} {us = ml.more_types ml.int ml.no_types} refl refl refl) (has_last (has_pure has_unit))
    (have_arm (has_fields {k = filled_list} {us = ml.more_types ml.int ml.no_types} refl refl refl) (has_last (has_print has_use)) have_no_arms))))))
    (has_run_unit
    (has_binding {a = ml.tuple (ml.more_types ml.int (ml.more_types ml.int ml.no_types))} (has_tuple (have_more has_whole (have_more has_whole have_none))) tt
    (has_last (has_match (have_arm (has_components {us = ml.more_types ml.int (ml.more_types ml.int ml.no_types)} refl) (has_last (has_print has_use)) have_no_arms))))
    has_no_items)

-- ---- the rules

no_flow : true ≡ false → ⊥
no_flow e = cc

checked : Checks data_basis no_instances [] data_program
checked =
    checks_unit
    (against_binding (obeys_build tt) tt
    (against_binding (obeys_build (sub tt in_int, (sub tt (in_data (sub_more (sub tt in_int) sub_none) tt), tt))) (refl, tt)
    (against_last
    (obeys_data_match refl
    (cases_more (case_here refl tt (against_last obeys_pure (λ e. sub tt in_unit)))
    (cases_more (case_later refl (case_here refl ((refl, (refl, tt)), ((refl, (refl, (refl, tt))), tt)) (against_last obeys_print (λ e. sub tt in_unit)))) cases_none))
    (default_later refl (default_later refl default_none)))
    (λ e. absurd (no_flow e)))))
    (checks_unit
    (against_binding obeys_tuple tt
    (against_last
    (obeys_other_match refl (first_arm ((refl, tt), ((refl, (refl, tt)), tt)) (against_last obeys_print (λ e. sub tt in_unit))))
    (λ e. absurd (no_flow e))))
    checks_none)

-- ---- names in scope

abbrev S : Scene
S = scene_of data_basis no_instances objects_by_size

unit_apart : {P : Setting} {B : Assignment} {Γ : Context} (d : IsSubtype P B Γ unit_type unit_type) → Apart S d
unit_apart (sub t in_unit) = tt

int_apart : {P : Setting} {B : Assignment} {Γ : Context} {p q : Parts} (d : IsSubtype P B Γ (int_with p) (int_with q)) → Apart S d
int_apart (sub t in_int) = tt

-- the fields of each constructor
by_fields : (R : MlTypes → Type 0) → R ml.no_types → R filled_list.fields → R some_option.fields → (c : ℕ) → R (fields_of (data_basis.setting.constructors c))
by_fields R nothing filled one c = by_test (7 == c) (8 == c) (9 == c) (10 == c)
  where
    by_test : (x y z w : Bool) → R (fields_of (if x then Some empty_list else if y then Some filled_list else if z then Some no_option else if w then Some some_option else None))
    by_test true y z w = nothing
    by_test false true z w = filled
    by_test false false true w = nothing
    by_test false false false true = one
    by_test false false false false = nothing

abbrev empty_type : Refined
empty_type = type_of data_basis [] (build 0 7 [])

abbrev with_empty : Context
with_empty = bind 20 empty_type []

abbrev list_type : Refined
list_type = type_of data_basis with_empty (build 1 8 (amount 5 ∷ variable 20 ∷ []))

abbrev with_list : Context
with_list = bind 21 list_type with_empty

no_field : (i j : ℕ) → Lacks no_instances (symbol.Position (suc j)) (top (type_at (arguments_of empty_type) i))
no_field zero j = (tt, tt)
no_field (suc i) j = tt

cells_apart : AreCellsApart S with_empty 4 (arguments_of empty_type) [] []
cells_apart =
    record { fields = λ c. by_fields (λ fs. MayBindFields S 0 (unfolded data_basis.setting.scopes [] 4 (arguments_of empty_type) [] c fs) with_empty) tt (((((refl, tt), tt), (tt, tt), refl, ((refl, tt), (tt, tt))), ((((refl, tt), (tt, tt)), tt, refl, ((refl, tt), (tt, tt))), tt))) ((((refl, tt), tt), (tt, tt), refl, ((refl, tt), (tt, tt))), tt) c; arguments = no_field; left_cells = λ c j i. tt; right_cells = λ c j i. tt }

list_apart : {P : Setting} {B : Assignment} {p q r : Parts} (d : IsSubtype P B with_empty (data_with 4 (arguments_of empty_type) [] p) (data_with 4 (more (int_with q) none) [] r)) → Apart S d
list_apart (sub t (in_data (sub_more d sub_none) c)) = ((int_apart d, tt), cells_apart)

pub where_any : (z : Bool) (X Y : Type 0) → X → Y → Where z X Y
where_any true X Y x y = x
where_any false X Y x y = y

empty_binds : Binds S (symbol_of 20) empty_type []
empty_binds = (refl, tt, (((tt, (tt, tt), tt), ((refl, tt), tt)), ((refl, tt), tt)), tt)

empty_closed : IsClosed S with_empty
empty_closed = closed_bind S (symbol_of 20) empty_type [] empty_binds

pub list_binds : Binds S (symbol_of 21) list_type with_empty
list_binds = (refl, (refl, tt), (((tt, tt, tt), ((refl, (tt, refl)), tt)), ((refl, (tt, refl)), tt)), empty_closed)

pub list_closed : IsClosed S with_list
list_closed = closed_bind S (symbol_of 21) list_type with_empty list_binds

list_scoped : IsScopedBlock data_basis no_instances objects_by_size [] list_block unit_type
list_scoped = (
  (tt, tt, knows, (λ k e. at_name 7 empty_list refl refl k e)),
  empty_binds,
  (tt, tt),
  (
    ((tt, tt, ((refl, tt), tt, tt)), ((λ d. int_apart d), ((λ d. list_apart d), tt)), knows, (λ k e. at_name 8 filled_list refl refl k e)),
    list_binds,
    (tt, tt),
    (
      (
        (refl, tt),
        tt,
        (tt, tt),
        (
          (knows, listed, (λ c k h. all_good _ c k h)),
          (λ c i.
              where_any (7 == c) _ _ ((((refl, tt), tt), list_closed), ((tt, tt), (λ e d. unit_apart d)))
              (where_any (8 == c) _ _ ((((refl, (tt, refl)), tt), (refl, (refl, (refl, (refl, tt))), (((tt, tt, tt), tt), tt), (refl, (refl, (refl, tt)), ((tt, tt), tt), list_closed))), ((refl, tt), (λ e d. unit_apart d))) tt)),
          tt,
        ),
      ),
      (λ e d. absurd (no_flow e)),
    ),
  ),
)

abbrev pair_type : Refined
pair_type = type_of data_basis [] (tuple (amount 1 ∷ amount 2 ∷ []))

abbrev with_pair : Context
with_pair = bind 24 pair_type []

pub pair_binds : Binds S (symbol_of 24) pair_type []
pair_binds = (refl, tt, (((tt, ((refl, tt), tt), (tt, ((refl, tt), tt), tt)), tt), tt), tt)

pub pair_closed : IsClosed S with_pair
pair_closed = closed_bind S (symbol_of 24) pair_type [] pair_binds

pair_ready : IsTwinReady S with_pair pair_type
pair_ready =
    record { over = no_symbols; on = ((tt, ((refl, tt), tt), (tt, ((refl, tt), tt), tt)), tt); apart = (tt, (tt, tt)); kinds = (tt, (tt, tt)); outside = (tt, (tt, tt)) }

tuple_scoped : IsScopedBlock data_basis no_instances objects_by_size [] tuple_block unit_type
tuple_scoped = (
  (tt, tt, (tt, tt, tt)),
  pair_binds,
  (tt, tt),
  (
    (
      (refl, tt),
      pair_ready,
      (tt, tt),
      (
        (((refl, tt), tt), (((refl, tt), tt), tt)),
        ((refl, (refl, (refl, tt)), ((tt, ((refl, tt), tt)), ((refl, tt), tt)), (refl, (refl, tt), ((tt, ((refl, tt), tt)), ((refl, tt), tt)), pair_closed)), ((refl, tt), (λ e d. unit_apart d))),
      ),
    ),
    (λ e d. absurd (no_flow e)),
  ),
)

scoped : IsScopedProgram data_basis no_instances objects_by_size no_symbols [] data_program
scoped = (
  (tt, ((tt, ((refl, tt), tt)), ((refl, tt), (tt, ((refl, tt), tt))))),
  list_scoped,
  (((tt, (tt, tt)), ((refl, tt), ((refl, tt), tt))), tuple_scoped, tt),
)

pub has_all : DataExampleHasAll
has_all = (scene, (λ r n. refl), templates, typed, checked, scoped)
