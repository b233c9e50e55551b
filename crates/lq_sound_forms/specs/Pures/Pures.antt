-- Pure expressions run to the values of their terms and predicates, which inhabit their types.
use Rattle.std.specs.Prelude.{◌≡◌, ℕ, pos, true, false, Option, Some, None}
use Rattle.lq_meaning_steps.specs.Model.Core.{v_array}
use Rattle.lq_text_tree.specs.MlType as ml
use Rattle.lq_text_tree.specs.MlType.{MlType}
use Rattle.lq_refined_types.specs.Parts.Assignment.{Assignment}
use Rattle.lq_refined_types.specs.Types.Context.{Context, type_in}
use Rattle.lq_refined_types.specs.Types.Operations.{symbol_of}
use Rattle.lq_refined_types.specs.Types.Refined.{Refined}
use Rattle.lq_refined_rules.specs.Checks.Basis.{Basis}
use Rattle.lq_refined_rules.specs.Checks.Fitting.{Fits}
use Rattle.lq_refined_rules.specs.Checks.Pure.{sum_of, formula_of}
use Rattle.lq_refined_rules.specs.Checks.Tree.{Use, Pure, whole, flag, unit, use_of, negated, add, subtract, multiply, length_of, compare, not_of, and_of, or_of}
use Rattle.lq_refined_rules.specs.Checks.Typing.{Points, AreTemplates, Types, HasPure}
use Rattle.lq_sound_values.specs.Inhabitants.Truth.{Objects, Scene}
use Rattle.lq_sound_values.specs.Inclusion.Laws.{IsScene}
use Rattle.lq_sound_values.specs.Inclusion.Symbols.{Symbols}
use Rattle.lq_sound_values.specs.Instantiation.Instances.{NamesOutside, AllTypesOn}
use Rattle.lq_sound_values.specs.Runs.Closed.{names_in, IsClosed}
use Rattle.lq_sound_values.specs.Runs.Meets.{Variables}
use Rattle.lq_sound_forms.specs.Pures.Cores.{pure_core}
use Rattle.lq_sound_values.specs.Runs.Runs.{RunsToTruth, RunsToNumber, RunsToUnit}

-- the lengths of arrays are those of their references
abbrev pub KnowsLengths : Objects → Type 0
KnowsLengths O = (r n : ℕ) → O.length (O.number_of (v_array r n)) ≡ pos n

-- what a basis, an assignment and numbers of objects make for the relation
abbrev pub scene_of : Basis → Assignment → Objects → Scene
scene_of P A O = record { setting = P.setting; assignment = A; objects = O }

-- each use in the expression is so
abbrev pub EachUse : (Use → Type 0) → Pure → Type 0
EachUse F (whole n) = Unit {0}
EachUse F (flag b) = Unit {0}
EachUse F unit = Unit {0}
EachUse F (use_of u) = F u
EachUse F (negated a) = EachUse F a
EachUse F (add a b) = EachUse F a × EachUse F b
EachUse F (subtract a b) = EachUse F a × EachUse F b
EachUse F (multiply a b) = EachUse F a × EachUse F b
EachUse F (length_of a) = EachUse F a
EachUse F (compare o a b) = EachUse F a × EachUse F b
EachUse F (not_of a) = EachUse F a
EachUse F (and_of a b) = EachUse F a × EachUse F b
EachUse F (or_of a b) = EachUse F a × EachUse F b

-- the use is of one of these names
abbrev pub IsOf : Symbols → Use → Type 0
IsOf V u = V (symbol_of u.name) ≡ true

-- The types that a use puts for the variables of its name's type speak of names of the environment, by none of which a function in that type
-- names its argument.
abbrev pub ArgumentsOver : Basis → Assignment → Context → Refined → Option ℕ → Type 0
ArgumentsOver P A Γ t None = Unit {0}
ArgumentsOver P A Γ t (Some i) = AllTypesOn A (P.type_arguments i) (names_in Γ) × NamesOutside (names_in Γ) t

-- a use of a name of the environment
abbrev pub UseOver : Basis → Assignment → Context → Use → Type 0
UseOver P A Γ u = IsOf (names_in Γ) u × ArgumentsOver P A Γ (type_in Γ (symbol_of u.name)) u.type_arguments

abbrev pub PureOver : Basis → Assignment → Context → Pure → Type 0
PureOver P A Γ e = EachUse (UseOver P A Γ) e

-- a name whose type is used at types for its variables is general
abbrev pub IsGeneralFor : Variables → ℕ → Option ℕ → Type 0
IsGeneralFor by x None = Unit {0}
IsGeneralFor by x (Some i) = by.general (symbol_of x) ≡ true

-- what is known of the name's value is enough for the use
abbrev pub MayUse : Variables → Use → Type 0
MayUse by u = (by.hidden (symbol_of u.name) ≡ false) × IsGeneralFor by u.name u.type_arguments

-- both
abbrev pub UseIn : Basis → Assignment → Variables → Context → Use → Type 0
UseIn P A by Γ u = UseOver P A Γ u × MayUse by u

abbrev pub PureIn : Basis → Assignment → Variables → Context → Pure → Type 0
PureIn P A by Γ e = EachUse (UseIn P A by Γ) e

-- a number runs to the value of its term, and a condition to the truth of its predicate
abbrev pub NumbersRun : Type 0
NumbersRun =
    (P : Basis) (A : Assignment) (O : Objects) → IsScene (scene_of P A O) → KnowsLengths O → (by : Variables) (Q : Points) → AreTemplates P Q
    → (Δ : Types) (Γ : Context) → Fits Δ Γ → IsClosed (scene_of P A O) Γ → (e : Pure)
    → HasPure Q Δ e ml.int → PureIn P A by Γ e → RunsToNumber (scene_of P A O) by Γ (pure_core e) (sum_of e)

abbrev pub ConditionsRun : Type 0
ConditionsRun =
    (P : Basis) (A : Assignment) (O : Objects) → IsScene (scene_of P A O) → KnowsLengths O → (by : Variables) (Q : Points) → AreTemplates P Q
    → (Δ : Types) (Γ : Context) → Fits Δ Γ → IsClosed (scene_of P A O) Γ → (e : Pure)
    → HasPure Q Δ e ml.bool → PureIn P A by Γ e → RunsToTruth (scene_of P A O) by Γ (pure_core e) (formula_of e)

-- and what is of type unit to unit
abbrev pub UnitsRun : Type 0
UnitsRun =
    (P : Basis) (A : Assignment) (O : Objects) → IsScene (scene_of P A O) → KnowsLengths O → (by : Variables) (Q : Points) → AreTemplates P Q
    → (Δ : Types) (Γ : Context) → Fits Δ Γ → IsClosed (scene_of P A O) Γ → (e : Pure)
    → HasPure Q Δ e ml.unit → PureIn P A by Γ e → RunsToUnit (scene_of P A O) by Γ (pure_core e)
