-- Runs are determined: what each of many says of the value holds of one value.
use Rattle.std.proofs.Common.{ℕ, zero, suc, Option, Some, None}
use Rattle.lq_meaning_steps.specs.Model.Core.{Core, Value, as_value}
use Rattle.lq_meaning_steps.specs.Model.Operations.{World}
use Rattle.lq_meaning_steps.specs.Model.Step.{Next, goes, faults, ends}
use Rattle.lq_meaning_steps.specs.Model.StepFunction.{step}
use Rattle.lq_sound_values.specs.Inhabitants.Inhabits.{OnNext, Turn, FaultAfter}
use Rattle.lq_sound_values.specs.Inhabitants.Runs.{RunsWell}

-- one of the many shows that no fault is next
next_all : (I : Type 0) → I → (s : Option Next) (F : Type 0) (go : I → Core → World → Type 0) (ho : Core → World → Type 0)
    → ((d : Core) (u : World) → ((i : I) → go i d u) → ho d u) → ((i : I) → OnNext s F (go i)) → OnNext s F ho
next_all I a (Some (goes d u)) F go ho f h = f d u h
next_all I a (Some (faults x p)) F go ho f h = h a
next_all I a (Some (ends p)) F go ho f h = tt
next_all I a None F go ho f h = h a

turn_all : (I : Type 0) → I
    → (o : Option Value) (s : Option Next) (F : Type 0) (q : I → Value → Type 0) (go : I → Core → World → Type 0) (ho : Core → World → Type 0)
    → ((d : Core) (u : World) → ((i : I) → go i d u) → ho d u) → ((i : I) → Turn o s F (q i) (go i)) → Turn o s F (λ v. (i : I) → q i v) ho
turn_all I a (Some v) s F q go ho f h = h
turn_all I a None s F q go ho f h = next_all I a s F go ho f h

pub all_agree : (I : Type 0) → I → (Q : I → ℕ → Value → World → Type 0) (n : ℕ) (e : Core) (w : World) → ((i : I) → RunsWell n e w (Q i))
    → RunsWell n e w (λ k v u. (i : I) → Q i k v u)
all_agree I a Q zero e w h =
    turn_all I a (as_value e) (step e w) (FaultAfter zero) (λ i v. Q i zero v w) (λ i d u. Unit {0}) (λ d u. Unit {0}) (λ d u x. tt) h
all_agree I a Q (suc n) e w h =
    turn_all I a (as_value e) (step e w) (FaultAfter (suc n)) (λ i v. Q i (suc n) v w) (λ i d u. RunsWell n d u (Q i))
    (λ d u. RunsWell n d u (λ k v t. (i : I) → Q i k v t)) (λ d u x. all_agree I a Q n d u x) h
