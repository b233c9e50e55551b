-- What it is for an expression to run well where the names of an environment have values.
use Rattle.std.specs.Prelude.{◌≡◌, ℕ, suc}
use Rattle.lq_logic_predicates.specs.Formula.{Formula}
use Rattle.lq_logic_predicates.specs.Sum.{Sum}
use Rattle.lq_logic_predicates.specs.Truth.{term_value, truth_of}
use Rattle.lq_meaning_steps.specs.Model.Core.{Core, Value, v_whole, v_flag, v_unit, close}
use Rattle.lq_meaning_steps.specs.Model.Operations.{World}
use Rattle.lq_refined_types.specs.Types.Context.{Context}
use Rattle.lq_refined_types.specs.Types.Refined.{Refined}
use Rattle.lq_sound_values.specs.Inhabitants.Truth.{Givens, Scene, meaning_of}
use Rattle.lq_sound_values.specs.Inhabitants.Shut.{shut}
use Rattle.lq_sound_values.specs.Inhabitants.Inhabits.{Table, Inhabits, Agrees}
use Rattle.lq_sound_values.specs.Inhabitants.Runs.{RunsWell, LandsIn}
use Rattle.lq_sound_values.specs.Runs.Meets.{pairs, Variables, Meets}

-- For each n: where the names' values are good for n + 1 steps, n steps meet no fault, and a value at their end inhabits the type. The step
-- more is that by which a name gets its value.
abbrev pub RunsTo : Scene → Variables → Context → Core → Refined → Type 0
RunsTo S by Γ e t =
    (n : ℕ) (W : Table) (σ : Givens) (w : World) → Meets S by (suc n) W Γ σ → Agrees S n W w → RunsWell n (close (pairs σ) e) w (LandsIn S W (shut σ by.types t))

-- exactly this value, and the world as it was
abbrev pub Exactly : Value → World → ℕ → Value → World → Type 0
Exactly v w n u x = (u ≡ v) × (x ≡ w)

-- a pure expression runs to one value, which inhabits the type, in whatever number of steps there is
abbrev pub RunsToValue : Scene → Variables → Context → Core → Refined → Type 0
RunsToValue S by Γ e t =
    (n : ℕ) (W : Table) (σ : Givens) → Meets S by (suc n) W Γ σ
    → (v : Value) × Inhabits S (suc n) W (shut σ by.types t) v × ((k : ℕ) (w : World) → RunsWell k (close (pairs σ) e) w (Exactly v w))

-- it runs to the value that this gives of the names' values
abbrev pub RunsExactly : Scene → Variables → Context → Core → (Givens → Value) → Type 0
RunsExactly S by Γ e f =
    (n : ℕ) (W : Table) (σ : Givens) → Meets S by (suc n) W Γ σ → (k : ℕ) (w : World) → RunsWell k (close (pairs σ) e) w (Exactly (f σ) w)

-- a condition to the truth of its predicate, and a number to the value of its term
abbrev pub RunsToTruth : Scene → Variables → Context → Core → Formula → Type 0
RunsToTruth S by Γ e p = RunsExactly S by Γ e (λ σ. v_flag (truth_of (meaning_of S.objects σ) p))

abbrev pub RunsToNumber : Scene → Variables → Context → Core → Sum → Type 0
RunsToNumber S by Γ e t = RunsExactly S by Γ e (λ σ. v_whole (term_value (meaning_of S.objects σ) t))

-- what is of type unit, to unit
abbrev pub RunsToUnit : Scene → Variables → Context → Core → Type 0
RunsToUnit S by Γ e = RunsExactly S by Γ e (λ σ. v_unit)
