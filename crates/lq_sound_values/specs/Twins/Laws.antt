-- A type and its twin, and a result with something for the name of the argument.
use Rattle.std.specs.Prelude.{ℕ, suc, ◌∷◌, []}
use Rattle.lq_logic_predicates.specs.declared.symbol.Symbol.TheVariants as symbol
use Rattle.lq_meaning_steps.specs.Model.Core.{Value}
use Rattle.lq_refined_types.specs.Parts.Substitution.{Atom, of_sum, of_formula, swap}
use Rattle.lq_refined_types.specs.Types.Operations.{symbol_of, type_by, twin}
use Rattle.lq_refined_types.specs.Types.Refined.{Refined, number, truth_value}
use Rattle.lq_sound_values.specs.Inhabitants.Truth.{Givens, given, Objects, Scene}
use Rattle.lq_sound_values.specs.Inhabitants.Shut.{shut, Shuts}
use Rattle.lq_sound_values.specs.Inhabitants.Below.{Below}
use Rattle.lq_sound_values.specs.Inclusion.Laws.{IsScene}
use Rattle.lq_sound_values.specs.Inclusion.Putting.{StandsFor, LeavesAlone, LeavesNames}
use Rattle.lq_sound_values.specs.Inclusion.Symbols.{Symbols, TypeOn}
use Rattle.lq_sound_values.specs.Twins.Names.{IsNeutralAt, NamesApart, IsNeutral}

-- A type has the inhabitants of its twin.
abbrev pub TwinTypesFit : Type 0
TwinTypesFit =
    (S : Scene) → IsScene S → (t : Refined) (P : Symbols) → TypeOn S.assignment t P → NamesApart S.assignment P t → (σ : Givens)
    → IsNeutral S.objects σ t → (by : Shuts)
    → Below S (shut σ by t) (shut σ by (twin S.setting.scopes t)) × Below S (shut σ by (twin S.setting.scopes t)) (shut σ by t)

-- at the sorts of an atom a symbol has no other value
abbrev pub IsNeutralFor : Objects → Givens → Atom → ℕ → Type 0
IsNeutralFor O σ (of_sum t) x = IsNeutralAt O σ number (symbol_of x)
IsNeutralFor O σ (of_formula p) x = IsNeutralAt O σ truth_value (symbol_of x)

-- A type with an atom for a name has the inhabitants of the type where the name has the atom's value.
abbrev pub AppliedTypesFit : Type 0
AppliedTypesFit =
    (S : Scene) → IsScene S → (t : Refined) (x : ℕ) (a : Atom) → LeavesNames (swap (symbol_of x) a ∷ []) t
    → LeavesAlone (swap (symbol_of x) a ∷ []) symbol.Value → ((k : ℕ) → LeavesAlone (swap (symbol_of x) a ∷ []) (symbol.Position (suc k)))
    → (σ : Givens) (v : Value) → StandsFor S.objects σ a v → IsNeutralFor S.objects σ a x → (by : Shuts)
    → Below S (shut (given (symbol_of x) v ∷ σ) by t) (shut σ by (type_by S.setting.scopes (swap (symbol_of x) a ∷ []) t))
    × Below S (shut σ by (type_by S.setting.scopes (swap (symbol_of x) a ∷ []) t)) (shut (given (symbol_of x) v ∷ σ) by t)
