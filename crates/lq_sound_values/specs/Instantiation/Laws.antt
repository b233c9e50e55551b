-- Types without type variables, and types with types for their variables.
use Rattle.std.specs.Prelude.{◌≡◌, ℕ, false}
use Rattle.lq_logic_predicates.specs.declared.symbol.Symbol.TheVariants as symbol
use Rattle.lq_refined_types.specs.Parts.Assignment.{Assignment}
use Rattle.lq_refined_types.specs.Types.Operations.{instantiated}
use Rattle.lq_refined_types.specs.Types.Refined.{Refined, Refineds, count}
use Rattle.lq_sound_values.specs.Inhabitants.Truth.{Givens, Scene}
use Rattle.lq_sound_values.specs.Inhabitants.Shut.{shut, shut_all, Shuts}
use Rattle.lq_sound_values.specs.Inhabitants.Below.{Below}
use Rattle.lq_sound_values.specs.Inclusion.Laws.{IsScene}
use Rattle.lq_sound_values.specs.Inclusion.Symbols.{Symbols, TypeOn}
use Rattle.lq_sound_values.specs.Instantiation.Instances.{HasNoVariables, HasVariablesBelow, NamesOutside, AllNamesOutside, AllTypesOn}

-- What inhabits a type without type variables inhabits it with any closed types for variables.
abbrev pub ClosedTypesFit : Type 0
ClosedTypesFit =
    (S : Scene) → IsScene S → (t : Refined) → HasNoVariables t → (σ : Givens) (by to : Shuts) → Below S (shut σ by t) (shut σ to t)

-- A type with refined types for its variables has the inhabitants of the type at the closed types that these make, where these are over
-- symbols among which there is neither a position, nor a name that a function in the type has for its argument.
abbrev pub InstancedTypesFit : Type 0
InstancedTypesFit =
    (S : Scene) → IsScene S → (Ts : Refineds) (P : Symbols) → AllTypesOn S.assignment Ts P
    → ((k : ℕ) → P (symbol.Position k) ≡ false) → (t : Refined) → HasVariablesBelow (count Ts) t → NamesOutside P t
    → (σ : Givens) (by : Shuts)
    → Below S (shut σ (shut_all σ by Ts) t) (shut σ by (instantiated Ts t)) × Below S (shut σ by (instantiated Ts t)) (shut σ (shut_all σ by Ts) t)

-- There are closed types at which the type has the inhabitants of the type with these refined types, also where a variable has none of them: unit
-- is put for it.
abbrev pub InstancesAreThere : Type 0
InstancesAreThere =
    (S : Scene) → IsScene S → (Ts : Refineds) (P : Symbols) → AllTypesOn S.assignment Ts P
    → ((k : ℕ) → P (symbol.Position k) ≡ false) → (t : Refined) → NamesOutside P t → (σ : Givens) (by : Shuts)
    → (to : Shuts) × Below S (shut σ to t) (shut σ by (instantiated Ts t)) × Below S (shut σ by (instantiated Ts t)) (shut σ to t)

-- A type over some symbols stays so with types over these for its variables.
abbrev pub InstancedTypesOn : Type 0
InstancedTypesOn = (A : Assignment) (t : Refined) (Ts : Refineds) (P : Symbols) → TypeOn A t P → AllTypesOn A Ts P → TypeOn A (instantiated Ts t) P

-- A type with types for its variables names arguments by none of some symbols, where neither it nor these do.
abbrev pub InstancedNamesOutside : Type 0
InstancedNamesOutside =
    (t : Refined) (Ts : Refineds) (P : Symbols) → NamesOutside P t → AllNamesOutside P Ts → NamesOutside P (instantiated Ts t)
