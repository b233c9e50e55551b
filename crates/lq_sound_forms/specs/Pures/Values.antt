-- Pure expressions run to values that inhabit their types.
use Rattle.std.specs.Prelude.{◌∷◌}
use Rattle.lq_refined_types.specs.Parts.Assignment.{Assignment}
use Rattle.lq_refined_types.specs.Parts.Part.{known}
use Rattle.lq_logic_predicates.specs.Formula.{negation}
use Rattle.lq_text_tree.specs.MlType.{MlType}
use Rattle.lq_refined_types.specs.Types.Context.{Context, guard}
use Rattle.lq_refined_types.specs.Types.Refined.{Refined, int_with, bool_with, unit_type, function, tuple_of, array_with, data_with, map_with, type_variable}
use Rattle.lq_refined_rules.specs.Checks.Basis.{Basis}
use Rattle.lq_refined_rules.specs.Checks.Fitting.{Fits}
use Rattle.lq_refined_rules.specs.Checks.Pure.{formula_of, type_of_use, pure_type}
use Rattle.lq_refined_rules.specs.Checks.Tree.{Pure, whole, flag, unit, use_of, negated, add, subtract, multiply, length_of, compare, not_of, and_of, or_of}
use Rattle.lq_refined_rules.specs.Checks.Typing.{Points, AreTemplates, Types, HasPure}
use Rattle.lq_sound_values.specs.Inhabitants.Truth.{Objects, Scene}
use Rattle.lq_sound_values.specs.Inclusion.Laws.{IsScene}
use Rattle.lq_sound_values.specs.Runs.Closed.{names_in, IsTypeOver, IsClosed}
use Rattle.lq_sound_values.specs.Runs.Meets.{Variables}
use Rattle.lq_sound_values.specs.Runs.Runs.{RunsToValue}
use Rattle.lq_sound_forms.specs.Pures.Cores.{pure_core}
use Rattle.lq_sound_forms.specs.Pures.Pures.{KnowsLengths, scene_of, EachUse, IsOf, PureOver, PureIn}

-- a type of which a variable's own type says all by its value: a number, a truth value, unit, an array or a datatype's value
abbrev pub IsBasic : Refined → Type 0
IsBasic (int_with p) = Unit {0}
IsBasic (bool_with p) = Unit {0}
IsBasic unit_type = Unit {0}
IsBasic (function x a b) = ⊥
IsBasic (tuple_of ts) = ⊥
IsBasic (array_with e p) = Unit {0}
IsBasic (data_with d ts m p) = Unit {0}
IsBasic (map_with e p) = ⊥
IsBasic (type_variable i) = ⊥

-- where the expression is a variable, it has such a type
abbrev pub IsBasicIn : Basis → Context → Pure → Type 0
IsBasicIn P Γ (use_of u) = IsBasic (type_of_use P Γ u)
IsBasicIn P Γ (whole n) = Unit {0}
IsBasicIn P Γ (flag b) = Unit {0}
IsBasicIn P Γ unit = Unit {0}
IsBasicIn P Γ (negated a) = Unit {0}
IsBasicIn P Γ (add a b) = Unit {0}
IsBasicIn P Γ (subtract a b) = Unit {0}
IsBasicIn P Γ (multiply a b) = Unit {0}
IsBasicIn P Γ (length_of a) = Unit {0}
IsBasicIn P Γ (compare o a b) = Unit {0}
IsBasicIn P Γ (not_of a) = Unit {0}
IsBasicIn P Γ (and_of a b) = Unit {0}
IsBasicIn P Γ (or_of a b) = Unit {0}

-- such an expression runs to a value that inhabits its type
abbrev pub ValuesRun : Type 0
ValuesRun =
    (P : Basis) (A : Assignment) (O : Objects) → IsScene (scene_of P A O) → KnowsLengths O → (by : Variables) (Q : Points) → AreTemplates P Q
    → (Δ : Types) (Γ : Context) → Fits Δ Γ → IsClosed (scene_of P A O) Γ → (e : Pure) (a : MlType) → HasPure Q Δ e a → PureIn P A by Γ e → IsBasicIn P Γ e
    → RunsToValue (scene_of P A O) by Γ (pure_core e) (pure_type P Γ e)

-- its type speaks of names of the environment, and so do a condition and its negation
abbrev pub PureTypesAreOver : Type 0
PureTypesAreOver =
    (P : Basis) (A : Assignment) (O : Objects) (Γ : Context) → IsClosed (scene_of P A O) Γ → (e : Pure) → PureOver P A Γ e → IsBasicIn P Γ e
    → IsTypeOver (scene_of P A O) (names_in Γ) (pure_type P Γ e)

abbrev pub ConditionsGuard : Type 0
ConditionsGuard =
    (S : Scene) (Γ : Context) → IsClosed S Γ → (e : Pure) → EachUse (IsOf (names_in Γ)) e
    → IsClosed S (guard (known (formula_of e)) ∷ Γ) × IsClosed S (guard (known (negation (formula_of e))) ∷ Γ)
