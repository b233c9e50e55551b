-- Operands in a row, tuples, and matches on values that are no datatype's.
use Rattle.std.specs.Prelude.{◌≡◌, ℕ, suc, false, List, [], ◌∷◌}
use Rattle.lq_base_names.specs.declared.place.Place.{Place}
use Rattle.lq_logic_predicates.specs.declared.symbol.Symbol.TheVariants as symbol
use Rattle.lq_meaning_steps.specs.Model.Core as core
use Rattle.lq_meaning_steps.specs.Model.Core.{Core, Row, row, match_on, more_arms, Values, no_values, more_values, row_value, close}
use Rattle.lq_meaning_steps.specs.Model.Operations.{World}
use Rattle.lq_refined_types.specs.Parts.Assignment.{Assignment, parts_under}
use Rattle.lq_text_tree.specs.MlType.{MlTypes}
use Rattle.lq_refined_types.specs.Types.Context.{Context}
use Rattle.lq_refined_types.specs.Types.Refined.{Refined, int_with, bool_with, unit_type, function, tuple_of, array_with, data_with, map_with, type_variable, Refineds, none, more, kind, top}
use Rattle.lq_refined_rules.specs.Checks.Basis.{Basis}
use Rattle.lq_refined_rules.specs.Checks.Fitting.{Fits}
use Rattle.lq_refined_rules.specs.Checks.Match.{is_data_match, in_arm}
use Rattle.lq_refined_rules.specs.Checks.Pure.{pure_type, pure_types, pure_atom}
use Rattle.lq_refined_rules.specs.Checks.Pure as pures
use Rattle.lq_refined_rules.specs.Checks.Tree.{Use, Pure, Pattern}
use Rattle.lq_refined_rules.specs.Checks.Typing.{Points, AreTemplates, Types, type_of_use, HavePures, HasPattern}
use Rattle.lq_sound_values.specs.Inhabitants.Truth.{Givens, Objects}
use Rattle.lq_sound_values.specs.Inhabitants.Shut.{shut_all}
use Rattle.lq_sound_values.specs.Inhabitants.Inhabits.{Table}
use Rattle.lq_sound_values.specs.Inhabitants.Runs.{RunsWell}
use Rattle.lq_sound_values.specs.Inclusion.Laws.{IsScene}
use Rattle.lq_sound_values.specs.Inclusion.Symbols.{Symbols, TypeOn}
use Rattle.lq_sound_values.specs.Runs.Closed.{names_in, with_value, EachSorted, IsClosed}
use Rattle.lq_sound_values.specs.Runs.Meets.{pairs, Variables, Meets}
use Rattle.lq_sound_values.specs.Runs.Runs.{Exactly, RunsTo}
use Rattle.lq_sound_forms.specs.Fields.Fields.{AllInhabit, with_term, with_flag}
use Rattle.lq_sound_forms.specs.Pures.Cores.{pure_cores, arm_pattern}
use Rattle.lq_sound_forms.specs.Pures.Pures.{KnowsLengths, scene_of, EachUse, PureOver, MayUse, UseIn}
use Rattle.lq_sound_forms.specs.Calls.Operands.{HasAtom, IsUsable, IsUsablePure}

-- each is over names of the environment and may be used as an operand
abbrev pub AreUsable : Basis → Assignment → Objects → Context → List Pure → Type 0
AreUsable P A O Γ [] = Unit {0}
AreUsable P A O Γ (e ∷ es) = PureOver P A Γ e × IsUsablePure P (scene_of P A O) Γ e × AreUsable P A O Γ es

-- what is known of the names' values is enough for each use in them
abbrev pub MayUseAll : Variables → List Pure → Type 0
MayUseAll by [] = Unit {0}
MayUseAll by (e ∷ es) = EachUse (MayUse by) e × MayUseAll by es

-- the atoms of operands stand for these values
abbrev pub OperandsStand : Basis → Context → Objects → Givens → List Pure → Values → Type 0
OperandsStand P Γ O σ [] no_values = Unit {0}
OperandsStand P Γ O σ [] (more_values v vs) = ⊥
OperandsStand P Γ O σ (e ∷ es) no_values = ⊥
OperandsStand P Γ O σ (e ∷ es) (more_values v vs) = HasAtom O σ (pure_type P Γ e) (pure_atom P Γ e) v × OperandsStand P Γ O σ es vs

-- operands in a row run to values of their types, and the row to what it makes of these
abbrev pub RowsRun : Type 0
RowsRun =
    (P : Basis) (A : Assignment) (O : Objects) → IsScene (scene_of P A O) → KnowsLengths O → (by : Variables) (Q : Points) → AreTemplates P Q
    → (Δ : Types) (Γ : Context) → Fits Δ Γ → IsClosed (scene_of P A O) Γ → (es : List Pure) (us : MlTypes) → HavePures Q Δ es us
    → AreUsable P A O Γ es → MayUseAll by es → (r : Row) → (n : ℕ) (W : Table) (σ : Givens) → Meets (scene_of P A O) by (suc n) W Γ σ
    → (vs : Values) × AllInhabit (scene_of P A O) (suc n) W (shut_all σ by.types (pure_types P Γ es)) vs × OperandsStand P Γ O σ es vs
    × ((k : ℕ) (w : World) → RunsWell k (close (pairs σ) (row r (pure_cores es))) w (Exactly (row_value r vs) w))

abbrev pub TuplesRun : Type 0
TuplesRun =
    (P : Basis) (A : Assignment) (O : Objects) → IsScene (scene_of P A O) → KnowsLengths O → (by : Variables) (Q : Points) → AreTemplates P Q
    → (Δ : Types) (Γ : Context) → Fits Δ Γ → IsClosed (scene_of P A O) Γ → (es : List Pure) (us : MlTypes) → HavePures Q Δ es us
    → AreUsable P A O Γ es → MayUseAll by es
    → RunsTo (scene_of P A O) by Γ (row core.tuple (pure_cores es)) (tuple_of (pure_types P Γ es))

-- ---- matches

-- The top of each component from the one behind the first j on speaks of the first symbols and of earlier components in terms, of the second
-- ones and of earlier truth values in flags, and of v.
abbrev pub AreComponentsOver : Assignment → Symbols → Symbols → ℕ → Refineds → Type 0
AreComponentsOver A P Q j none = Unit {0}
AreComponentsOver A P Q j (more t ts) =
    EachSorted (with_value P) (with_value Q) (parts_under A (top t))
    × AreComponentsOver A (with_term (kind t) P (symbol.Position (suc j))) (with_flag (kind t) Q (symbol.Position (suc j))) (suc j) ts

-- the same of a tuple's type, and nothing of another
abbrev pub HasComponentsOver : Assignment → Symbols → Refined → Type 0
HasComponentsOver A P (tuple_of ts) = AreComponentsOver A P P 0 ts
HasComponentsOver A P (int_with p) = Unit {0}
HasComponentsOver A P (bool_with p) = Unit {0}
HasComponentsOver A P unit_type = Unit {0}
HasComponentsOver A P (function x a b) = Unit {0}
HasComponentsOver A P (array_with e p) = Unit {0}
HasComponentsOver A P (data_with d ts m p) = Unit {0}
HasComponentsOver A P (map_with e p) = Unit {0}
HasComponentsOver A P (type_variable i) = Unit {0}

-- a match on a variable that is no datatype's runs to what its first arm runs to
abbrev pub FirstArmRuns : Type 0
FirstArmRuns =
    (P : Basis) (A : Assignment) (O : Objects) → IsScene (scene_of P A O) → KnowsLengths O → (by : Variables) (Q : Points) → AreTemplates P Q
    → (Δ : Types) (Γ : Context) → Fits Δ Γ → IsClosed (scene_of P A O) Γ → (l : Place) (u : Use) (q : Pattern) (b : Core) (rest : core.Arms)
    (Θ : Types) (t : Refined) → UseIn P A by Γ u → IsUsable (scene_of P A O) Γ (pures.type_of_use P Γ u) → HasPattern P Δ (type_of_use Q Δ u) q Θ
    → is_data_match P Γ u ≡ false → HasComponentsOver A (names_in Γ) (pures.type_of_use P Γ u)
    → IsClosed (scene_of P A O) (in_arm P Γ u q) → TypeOn A t (names_in Γ) → RunsTo (scene_of P A O) by (in_arm P Γ u q) b t
    → RunsTo (scene_of P A O) by Γ (match_on l (core.use_of u.name) (more_arms (arm_pattern q) b rest)) t
