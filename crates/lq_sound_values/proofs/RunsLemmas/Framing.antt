-- Running inside a form.
use Rattle.std.proofs.Common.{◌≡◌, ℕ, zero, suc, ◌≤◌, Option, Some, None, refl, arith as numbers}
use Rattle.lq_meaning_steps.specs.Model.Core.{Core, Value, as_value}
use Rattle.lq_meaning_steps.specs.Model.Operations.{World}
use Rattle.lq_meaning_steps.specs.Model.Step.{Next, goes, faults, ends, Frame, plug, IsReady}
use Rattle.lq_meaning_steps.specs.Model.StepFunction.{inside, step}
use Rattle.lq_sound_values.specs.Inhabitants.Inhabits.{OnNext, Turn, FaultAfter}
use Rattle.lq_sound_values.specs.Inhabitants.Runs.{RunsWell}
use Rattle.lq_sound_values.proofs.InhabitantsLemmas.Running.{turn_same}
use Rattle.lq_sound_values.proofs.RunsLemmas.Lower.{Lower}

next_in : (F : Frame) (s : Option Next) (N : Type 0) (go ho : Core → World → Type 0) → ((d : Core) (u : World) → go d u → ho (plug F d) u) → OnNext s N go → OnNext (inside F s) N ho
next_in F (Some (goes d u)) N go ho f h = f d u h
next_in F (Some (faults x p)) N go ho f h = h
next_in F (Some (ends p)) N go ho f h = h
next_in F None N go ho f h = h

turn_in : Lower → (F : Frame) → IsReady F → (e : Core) (w : World) (N : Type 0) (q r : Value → Type 0) (go ho : Core → World → Type 0) → ((d : Core) (u : World) → go d u → ho (plug F d) u) → ((v : Value) → as_value e ≡ Some v → q v → Turn (as_value (plug F e)) (step (plug F e) w) N r ho) → (o : Option Value) → as_value e ≡ o → Turn o (step e w) N q go → Turn (as_value (plug F e)) (step (plug F e) w) N r ho
turn_in law F f e w N q r go ho g k (Some v) is h = k v is h
turn_in law F f e w N q r go ho g k None is h =
    turn_same None (as_value (plug F e)) (inside F (step e w)) (step (plug F e) w) N r ho (law.wait F e is) (law.inside F e w f is) (next_in F (step e w) N go ho g h)

-- the part runs first, and the form goes on from its value, which the part then is
pub runs_in : Lower → (F : Frame) → IsReady F → (n : ℕ) (e : Core) (w : World) (Q R : ℕ → Value → World → Type 0) → RunsWell n e w Q → ((k : ℕ) (d : Core) (v : Value) (u : World) → k ≤ n → as_value d ≡ Some v → Q k v u → RunsWell k (plug F d) u R) → RunsWell n (plug F e) w R
runs_in law F f zero e w Q R h k =
    turn_in law F f e w (FaultAfter zero) (λ v. Q zero v w) (λ v. R zero v w) (λ d u. Unit {0}) (λ d u. Unit {0}) (λ d u x. x) (λ v is q. k zero e v w (omega numbers) is q) (as_value e) refl h
runs_in law F f (suc n) e w Q R h k =
    turn_in law F f e w (FaultAfter (suc n)) (λ v. Q (suc n) v w) (λ v. R (suc n) v w) (λ d u. RunsWell n d u Q) (λ d u. RunsWell n d u R) (λ d u x. runs_in law F f n d u Q R x (λ j c v t le is q. k j c v t (omega numbers) is q)) (λ v is q. k (suc n) e v w (omega numbers) is q) (as_value e) refl h
