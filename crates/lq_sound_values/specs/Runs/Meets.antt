-- Values for the names of an environment.
use Rattle.std.specs.Prelude.{◌≡◌, ℕ, true, false, [], ◌∷◌}
use Rattle.lq_logic_predicates.specs.declared.symbol.Symbol.{Symbol}
use Rattle.lq_logic_predicates.specs.declared.symbol.Symbol.TheVariants as symbol
use Rattle.lq_meaning_steps.specs.Model.Core.{Value, Pairs}
use Rattle.lq_refined_types.specs.Types.Context.{Context, name, guard}
use Rattle.lq_refined_types.specs.Types.Refined.{Refined}
use Rattle.lq_sound_values.specs.Inhabitants.Truth.{Givens, Scene}
use Rattle.lq_sound_values.specs.Inhabitants.Shut.{shut, Shuts}
use Rattle.lq_sound_values.specs.Inhabitants.Inhabits.{Table, Inhabits}
use Rattle.lq_sound_values.specs.Inclusion.Apart.{IsKnown}
use Rattle.lq_sound_values.specs.Inclusion.Symbols.{Symbols}
use Rattle.lq_sound_values.specs.Runs.Closed.{names_in}

-- the values by which the program's variables are replaced
abbrev pub pair_of : Symbol → Value → Pairs → Pairs
pair_of symbol.Value v ps = ps
pair_of (symbol.Bound x) v ps = (x.0, v) ∷ ps
pair_of (symbol.Position j) v ps = ps

abbrev pub pairs : Givens → Pairs
pairs [] = []
pairs (g ∷ σ) = pair_of g.symbol g.value (pairs σ)

-- What stands for type variables: the types that are put for them, and the names whose types are known otherwise: those that have them at each
-- instance, and those of which only some instance is known.
pub record Variables : Type 0 where
  pub types : Shuts
  pub general : Symbols
  pub hidden : Symbols

-- the value of a name inhabits its type at some instance, at the one that is put where the name isn't hidden, and at each where it is general
pub record HasInstances (S : Scene) (by : Variables) (n : ℕ) (W : Table) (ρ : Givens) (x : Symbol) (t : Refined) (v : Value) : Type 0 where
  pub some : Shuts
  pub fits : Inhabits S n W (shut ρ some t) v
  pub own : by.hidden x ≡ false → Inhabits S n W (shut ρ by.types t) v
  pub each : by.general x ≡ true → (to : Shuts) → Inhabits S n W (shut ρ to t) v

-- name by name a value that does so, where the types are read at these values
abbrev pub Named : Scene → Variables → ℕ → Table → Givens → Context → Givens → Type 0
Named S by n W ρ [] [] = Unit {0}
Named S by n W ρ [] (g ∷ σ) = ⊥
Named S by n W ρ (name x t ∷ Γ) [] = ⊥
Named S by n W ρ (name x t ∷ Γ) (g ∷ σ) = (g.symbol ≡ x) × HasInstances S by n W ρ x t g.value × Named S by n W ρ Γ σ
Named S by n W ρ (guard p ∷ Γ) σ = Named S by n W ρ Γ σ

-- the types are read at all the names' values, and the hypotheses of the environment are true of them; general and hidden names are its own
pub record Meets (S : Scene) (by : Variables) (n : ℕ) (W : Table) (Γ : Context) (σ : Givens) : Type 0 where
  pub known : IsKnown S Γ σ
  pub named : Named S by n W σ Γ σ
  pub within : (x : Symbol) → names_in Γ x ≡ false → (by.general x ≡ false) × (by.hidden x ≡ false)
