-- The laws of the relation.
use Rattle.std.specs.Prelude.{◌↔◌, ℕ, ◌≤◌, ◌<◌, Option}
use Rattle.lq_meaning_steps.specs.Model.Core.{Value}
use Rattle.lq_meaning_steps.specs.Model.Operations.{World}
use Rattle.lq_refined_types.specs.Types.Refined.{Refined}
use Rattle.lq_sound_values.specs.Inhabitants.Truth.{Givens, Scene}
use Rattle.lq_sound_values.specs.Inhabitants.Shut.{Shut, Shuts}
use Rattle.lq_sound_values.specs.Inhabitants.Inhabits.{Table, Slot, Extends, Elements, SameFits, CallsBelow, SameBelow, ElementsBelow, Inhabits, Agrees}
use Rattle.lq_sound_values.specs.Inhabitants.Runs.{CallAt}

-- what inhabits a type at a number does so at smaller ones
abbrev pub SmallerNumbers : Type 0
SmallerNumbers =
    (S : Scene) (n m : ℕ) (W : Table) (T : Shut) (v : Value) → m ≤ n → Inhabits S n W T v → Inhabits S m W T v

-- and under tables that extend the table
abbrev pub ExtendedTables : Type 0
ExtendedTables =
    (S : Scene) (n : ℕ) (W V : Table) (T : Shut) (v : Value) → Extends W V → Inhabits S n W T v → Inhabits S n V T v

-- a store that agrees with a table at a number does so at smaller ones
abbrev pub StoresAgree : Type 0
StoresAgree = (S : Scene) (n m : ℕ) (W : Table) (w : World) → m ≤ n → Agrees S n W w → Agrees S m W w

-- What the relation asks of calls, of slots and of elements below n is what it asks at each number below n.
abbrev pub CallsAreEach : Type 0
CallsAreEach =
    (S : Scene) (n : ℕ) (g : Value) (W : Table) (σ : Givens) (by : Shuts) (x : Option ℕ) (A T : Refined)
    → CallsBelow S n g W σ by x A T ↔ ((m : ℕ) → m < n → CallAt S m g W σ by x A T)

abbrev pub SlotsAreEach : Type 0
SlotsAreEach = (S : Scene) (n : ℕ) (W : Table) (K : Slot) (E : Shut) → SameBelow S n W K E ↔ ((m : ℕ) → m < n → SameFits (Inhabits S m) W K E)

abbrev pub ElementsAreEach : Type 0
ElementsAreEach = (S : Scene) (n : ℕ) (W : Table) (w : World) → ElementsBelow S n W w ↔ ((m : ℕ) → m < n → Elements (Inhabits S m) W w)
