-- Arrays: new ones, elements and stores run well.
use Rattle.std.specs.Prelude.{◌≡◌, ℕ, Some, [], ◌∷◌}
use Rattle.lq_base_names.specs.declared.operation.CompareOp.TheVariants.{Eq, Lt, Le}
use Rattle.lq_base_names.specs.declared.place.Place.{Place}
use Rattle.lq_logic_predicates.specs.Formula.{Formula, compare, conjunction}
use Rattle.lq_logic_predicates.specs.Sum.{Sum, var, len}
use Rattle.lq_refined_types.specs.Parts.Assignment.{Implied}
use Rattle.lq_refined_types.specs.Parts.Part.{Parts, known}
use Rattle.lq_refined_types.specs.Types.Context.{Context}
use Rattle.lq_refined_types.specs.Types.Operations.{symbol_of}
use Rattle.lq_refined_types.specs.Types.Refined.{Refined, unit_type, array_with}
use Rattle.lq_refined_types.specs.Subtyping.Subtype.{facts}
use Rattle.lq_refined_rules.specs.Checks.Operation.{value}
use Rattle.lq_refined_rules.specs.Checks.Pure.{literal}
use Rattle.lq_meaning_steps.specs.Model.Core.{Core, use_of, two, three, make, fetch, store, Value}
use Rattle.lq_sound_values.specs.Inhabitants.Truth.{Givens, value_at, Scene}
use Rattle.lq_sound_values.specs.Inhabitants.Shut.{shut}
use Rattle.lq_sound_values.specs.Inhabitants.Inhabits.{Table, Inhabits}
use Rattle.lq_sound_values.specs.Inhabitants.Below.{Below}
use Rattle.lq_sound_values.specs.Inclusion.Apart.{IsKnown}
use Rattle.lq_sound_values.specs.Inclusion.Laws.{IsScene}
use Rattle.lq_sound_values.specs.Inclusion.Symbols.{SumOn}
use Rattle.lq_sound_values.specs.Runs.Closed.{names_in, IsClosed}
use Rattle.lq_sound_values.specs.Runs.Meets.{Variables, Meets}
use Rattle.lq_sound_values.specs.Runs.Runs.{RunsTo, RunsToNumber, RunsToValue}
use Rattle.lq_sound_forms.specs.Pures.Pures.{KnowsLengths}

-- an index is one of the array that the variable is
abbrev pub index_in : ℕ → Sum → Formula
index_in x i = conjunction (compare Le (literal 0) i) (compare Lt i (len (var (symbol_of x))))

-- the variable has a value that is an array with these elements
pub record HoldsArray (S : Scene) (by : Variables) (n : ℕ) (W : Table) (σ : Givens) (x : ℕ) (e : Refined) (p : Parts) : Type 0 where
  pub value : Value
  pub is : value_at σ (symbol_of x) ≡ Some value
  pub fits : Inhabits S n W (shut σ by.types (array_with e p)) value

-- it does wherever the names have their values: what looking it up at a use gives, where the type of the use is that of such an array
abbrev pub IsArrayAt : Scene → Variables → Context → ℕ → Refined → Parts → Type 0
IsArrayAt S by Γ x e p = (n : ℕ) (W : Table) (σ : Givens) → Meets S by n W Γ σ → HoldsArray S by n W σ x e p

-- an element, at an index of the array
abbrev pub FetchRuns : Type 0
FetchRuns =
    (S : Scene) → IsScene S → KnowsLengths S.objects → (by : Variables) (Γ : Context) (l : Place) (x : ℕ) (c : Core) (i : Sum) (e : Refined)
    (p : Parts) → IsClosed S Γ → IsArrayAt S by Γ x e p → RunsToNumber S by Γ c i
    → Implied S.assignment (facts S.setting Γ) (known (index_in x i)) → RunsTo S by Γ (two (fetch l) (use_of x) c) e

-- a new array of a length that isn't below 0, with an element of a subtype
abbrev pub MakeRuns : Type 0
MakeRuns =
    (S : Scene) → KnowsLengths S.objects → (by : Variables) (Γ : Context) (l : Place) (c d : Core) (n : Sum) (t e : Refined) → IsClosed S Γ
    → SumOn (names_in Γ) n → RunsToNumber S by Γ c n → RunsToValue S by Γ d t
    → ((σ : Givens) → IsKnown S Γ σ → Below S (shut σ by.types t) (shut σ by.types e))
    → Implied S.assignment (facts S.setting Γ) (known (compare Le (literal 0) n))
    → RunsTo S by Γ (two (make l) c d) (array_with e (known (compare Eq (len value) n) ∷ []))

-- a store, at an index of the array, of a value of a subtype
abbrev pub StoreRuns : Type 0
StoreRuns =
    (S : Scene) → IsScene S → KnowsLengths S.objects → (by : Variables) (Γ : Context) (l : Place) (x : ℕ) (c d : Core) (i : Sum) (t e : Refined)
    (p : Parts) → IsClosed S Γ → IsArrayAt S by Γ x e p → RunsToNumber S by Γ c i → RunsToValue S by Γ d t
    → ((σ : Givens) → IsKnown S Γ σ → Below S (shut σ by.types t) (shut σ by.types e))
    → Implied S.assignment (facts S.setting Γ) (known (index_in x i))
    → RunsTo S by Γ (three (store l) (use_of x) c d) unit_type
