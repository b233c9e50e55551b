-- Runs of quiet expressions keep the world.
use Rattle.std.proofs.Common.{◌≡◌, ℕ, zero, suc, Option, Some, None, refl, ◌∙◌}
use Rattle.lq_meaning_steps.specs.Model.Core.{Core, Value, as_value}
use Rattle.lq_meaning_steps.specs.Model.Operations.{World}
use Rattle.lq_meaning_steps.specs.Model.Step.{Next, goes, faults, ends}
use Rattle.lq_meaning_steps.specs.Model.StepFunction.{step}
use Rattle.lq_sound_values.specs.Inhabitants.Inhabits.{OnNext, Turn, FaultAfter}
use Rattle.lq_sound_values.specs.Inhabitants.Runs.{RunsWell}
use Rattle.lq_sound_forms.specs.Quiet.Quiet.{IsQuiet}
use Rattle.lq_sound_forms.proofs.QuietLemmas.Staying.{Stays, step_stays}

next_stays : (w : World) (s : Option Next) (F : Type 0) (go ho : Core → World → Type 0) → Stays w s
    → ((d : Core) (u : World) → IsQuiet d → u ≡ w → go d u → ho d u) → OnNext s F go → OnNext s F ho
next_stays w (Some (goes d u)) F go ho k f h = f d u k.0 k.1 h
next_stays w (Some (faults x p)) F go ho k f h = h
next_stays w (Some (ends p)) F go ho k f h = h
next_stays w None F go ho k f h = h

turn_stays : (w : World) (o : Option Value) (s : Option Next) (F : Type 0) (q r : Value → Type 0) (go ho : Core → World → Type 0) → Stays w s
    → ((v : Value) → q v → r v) → ((d : Core) (u : World) → IsQuiet d → u ≡ w → go d u → ho d u) → Turn o s F q go → Turn o s F r ho
turn_stays w (Some v) s F q r go ho k g f h = g v h
turn_stays w None s F q r go ho k g f h = next_stays w s F go ho k f h

-- from a world on the way, which is that of the start
keeps_from : (Q : ℕ → Value → World → Type 0) (n : ℕ) (e : Core) (z w : World) → z ≡ w → IsQuiet e → RunsWell n e z Q
    → RunsWell n e z (λ k v u. Q k v u × (u ≡ w))
keeps_from Q zero e z w s is h =
    turn_stays z (as_value e) (step e z) (FaultAfter zero) (λ v. Q zero v z) (λ v. Q zero v z × (z ≡ w)) (λ d u. Unit {0})
    (λ d u. Unit {0}) (step_stays e z is) (λ v q. (q, s)) (λ d u k t x. tt) h
keeps_from Q (suc n) e z w s is h =
    turn_stays z (as_value e) (step e z) (FaultAfter (suc n)) (λ v. Q (suc n) v z) (λ v. Q (suc n) v z × (z ≡ w))
    (λ d u. RunsWell n d u Q) (λ d u. RunsWell n d u (λ k v t. Q k v t × (t ≡ w)))
    (step_stays e z is) (λ v q. (q, s)) (λ d u k t x. keeps_from Q n d u w (t ∙ s) k x) h

pub keeps_world : (Q : ℕ → Value → World → Type 0) (n : ℕ) (e : Core) (w : World) → IsQuiet e → RunsWell n e w Q
    → RunsWell n e w (λ k v u. Q k v u × (u ≡ w))
keeps_world Q n e w is h = keeps_from Q n e w w refl is h
