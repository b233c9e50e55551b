-- What holds where the first steps of an expression meet no fault.
use Rattle.std.specs.Prelude.{ℕ, zero, suc}
use Rattle.lq_meaning_steps.specs.Model.Core.{Core, val, call, Value, as_value}
use Rattle.lq_meaning_steps.specs.Model.Operations.{World}
use Rattle.lq_meaning_steps.specs.Model.StepFunction.{step}
use Rattle.lq_sound_values.specs.Inhabitants.Truth.{Scene}
use Rattle.lq_sound_values.specs.Inhabitants.Shut.{Shut, shut, with_argument}
use Rattle.lq_sound_values.specs.Inhabitants.Inhabits.{Table, Turn, FaultAfter, Extends, Calls, Lands, Inhabits, Agrees}

-- Within n steps there is no fault, and always a step or a value; of a value this holds, with the number of steps that are left then.
abbrev pub RunsWell : ℕ → Core → World → (ℕ → Value → World → Type 0) → Type 0
RunsWell zero e w Q = Turn (as_value e) (step e w) (FaultAfter zero) (λ v. Q zero v w) (λ d u. Unit {0})
RunsWell (suc n) e w Q = Turn (as_value e) (step e w) (FaultAfter (suc n)) (λ v. Q (suc n) v w) (λ d u. RunsWell n d u Q)

-- the value inhabits the type, under a table that extends this one and agrees with the store
abbrev pub LandsIn : Scene → Table → Shut → ℕ → Value → World → Type 0
LandsIn S W T k v w = Lands (Inhabits S k) (Agrees S k) W T v w

-- A call is good for m steps, on each argument that inhabits its type at m and on a store that agrees at m.
abbrev pub CallAt : Scene → ℕ → Value → Table → Calls
CallAt S m g W σ by x A T =
    (V : Table) (a : Value) (w : World) → Extends W V → Inhabits S m V (shut σ by A) a → Agrees S m V w → RunsWell m (call (val g) (val a)) w (LandsIn S V (shut (with_argument x a σ) by T))
