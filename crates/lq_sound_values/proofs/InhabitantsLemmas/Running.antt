-- Running well: another condition on the value, a value, a step, and the form in which the relation says it.
use Rattle.std.proofs.Common.{◌≡◌, ℕ, zero, suc, ◌≤◌, Option, Some, None, refl, sym, subst, arith as numbers}
use Rattle.lq_meaning_steps.specs.Model.Core.{Core, Value, as_value}
use Rattle.lq_meaning_steps.specs.Model.Operations.{World}
use Rattle.lq_meaning_steps.specs.Model.Step.{Next, goes, faults, ends}
use Rattle.lq_meaning_steps.specs.Model.StepFunction.{step}
use Rattle.lq_sound_values.specs.Inhabitants.Truth.{Scene}
use Rattle.lq_sound_values.specs.Inhabitants.Shut.{Shut}
use Rattle.lq_sound_values.specs.Inhabitants.Runs.{RunsWell, LandsIn}
use Rattle.lq_sound_values.specs.Inhabitants.Inhabits.{Table, OnNext, Turn, FaultAfter, RunsBelow}

pub next_map : (s : Option Next) (F : Type 0) (go ho : Core → World → Type 0) → ((d : Core) (u : World) → go d u → ho d u) → OnNext s F go → OnNext s F ho
next_map (Some (goes d u)) F go ho f h = f d u h
next_map (Some (faults x p)) F go ho f h = h
next_map (Some (ends p)) F go ho f h = h
next_map None F go ho f h = h

pub turn_map : (o : Option Value) (s : Option Next) (F : Type 0) (q r : Value → Type 0) (go ho : Core → World → Type 0) → ((v : Value) → q v → r v) → ((d : Core) (u : World) → go d u → ho d u) → Turn o s F q go → Turn o s F r ho
turn_map (Some v) s F q r go ho g f h = g v h
turn_map None s F q r go ho g f h = next_map s F go ho f h

pub turn_same : (o x : Option Value) (s y : Option Next) (F : Type 0) (q : Value → Type 0) (go : Core → World → Type 0) → x ≡ o → y ≡ s → Turn o s F q go → Turn x y F q go
turn_same o x s y F q go e h t =
    subst (λ z. Turn z y F q go) (sym e) (subst (λ z. Turn o z F q go) (sym h) t)

pub runs_map : (n : ℕ) (e : Core) (w : World) (Q R : ℕ → Value → World → Type 0) → ((k : ℕ) (v : Value) (u : World) → k ≤ n → Q k v u → R k v u) → RunsWell n e w Q → RunsWell n e w R
runs_map zero e w Q R f h =
    turn_map (as_value e) (step e w) (FaultAfter zero) (λ v. Q zero v w) (λ v. R zero v w) (λ d u. Unit {0}) (λ d u. Unit {0}) (λ v q. f zero v w (omega numbers) q) (λ d u x. x) h
runs_map (suc n) e w Q R f h =
    turn_map (as_value e) (step e w) (FaultAfter (suc n)) (λ v. Q (suc n) v w) (λ v. R (suc n) v w) (λ d u. RunsWell n d u Q) (λ d u. RunsWell n d u R) (λ v q. f (suc n) v w (omega numbers) q) (λ d u x. runs_map n d u Q R (λ k v t le q. f k v t (omega numbers) q) x) h

pub run_runs : (S : Scene) (n : ℕ) (W : Table) (T : Shut) (e : Core) (w : World) → RunsBelow S (suc n) W T e w → RunsWell n e w (LandsIn S W T)
run_runs S zero W T e w h = h
run_runs S (suc n) W T e w h =
    turn_map (as_value e) (step e w) (FaultAfter (suc n)) (λ v. LandsIn S W T (suc n) v w) (λ v. LandsIn S W T (suc n) v w) (λ d u. RunsBelow S (suc n) W T d u) (λ d u. RunsWell n d u (LandsIn S W T)) (λ v q. q) (λ d u x. run_runs S n W T d u x) h

pub runs_run : (S : Scene) (n : ℕ) (W : Table) (T : Shut) (e : Core) (w : World) → RunsWell n e w (LandsIn S W T) → RunsBelow S (suc n) W T e w
runs_run S zero W T e w h = h
runs_run S (suc n) W T e w h =
    turn_map (as_value e) (step e w) (FaultAfter (suc n)) (λ v. LandsIn S W T (suc n) v w) (λ v. LandsIn S W T (suc n) v w) (λ d u. RunsWell n d u (LandsIn S W T)) (λ d u. RunsBelow S (suc n) W T d u) (λ v q. q) (λ d u x. runs_run S n W T d u x) h

pub runs_value : (n : ℕ) (e : Core) (w : World) (v : Value) (Q : ℕ → Value → World → Type 0) → as_value e ≡ Some v → Q n v w → RunsWell n e w Q
runs_value zero e w v Q is q = turn_same (Some v) (as_value e) (step e w) (step e w) _ _ _ is refl q
runs_value (suc n) e w v Q is q = turn_same (Some v) (as_value e) (step e w) (step e w) _ _ _ is refl q

pub runs_step : (n : ℕ) (e d : Core) (w u : World) (Q : ℕ → Value → World → Type 0) → as_value e ≡ None → step e w ≡ Some (goes d u) → ((k : ℕ) → n ≡ suc k → RunsWell k d u Q) → RunsWell n e w Q
runs_step zero e d w u Q non is f = turn_same None (as_value e) (Some (goes d u)) (step e w) _ _ _ non is tt
runs_step (suc n) e d w u Q non is f = turn_same None (as_value e) (Some (goes d u)) (step e w) _ _ _ non is (f n refl)

pub runs_ends : (n : ℕ) (e : Core) (w : World) (s : Option Next) (Q : ℕ → Value → World → Type 0) → as_value e ≡ None → step e w ≡ s → ((F : Type 0) (go : Core → World → Type 0) → OnNext s F go) → RunsWell n e w Q
runs_ends zero e w s Q non is h = turn_same None (as_value e) s (step e w) _ _ _ non is (h _ _)
runs_ends (suc n) e w s Q non is h = turn_same None (as_value e) s (step e w) _ _ _ non is (h _ _)

pub runs_same : (n : ℕ) (e d : Core) (w : World) (Q : ℕ → Value → World → Type 0) → as_value e ≡ as_value d → step e w ≡ step d w → RunsWell n d w Q → RunsWell n e w Q
runs_same zero e d w Q non is h = turn_same (as_value d) (as_value e) (step d w) (step e w) _ _ _ non is h
runs_same (suc n) e d w Q non is h = turn_same (as_value d) (as_value e) (step d w) (step e w) _ _ _ non is h
