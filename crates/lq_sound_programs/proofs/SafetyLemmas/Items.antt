-- Items whose expressions run well go on calmly.
use Rattle.std.proofs.Common.{◌≡◌, ℕ, zero, suc, ◌≤◌, List, ◌∷◌, Option, Some, None, refl, sym, subst, arith as numbers}
use Rattle.lq_meaning_steps.specs.Model.Core.{Parameter, Core, Value, as_value}
use Rattle.lq_meaning_steps.specs.Model.Operations.{World}
use Rattle.lq_meaning_steps.specs.Model.Step.{Next, goes, faults, ends}
use Rattle.lq_meaning_steps.specs.Model.StepFunction.{step}
use Rattle.lq_meaning_steps.specs.Model.Program.{Item, let_item, defined, to, let_turn, item_next, after_turn, outcome_from, IsCalm}
use Rattle.lq_meaning_steps.specs.Model.Program.{Turn as ProgramTurn}
use Rattle.lq_sound_values.specs.Inhabitants.Inhabits.{Turn}
use Rattle.lq_sound_values.specs.Inhabitants.Runs.{RunsWell}

-- n steps from these items come to no fault and are never stuck
abbrev pub IsCalmFrom : ℕ → List Item → World → Type 0
IsCalmFrom n is w = IsCalm (outcome_from n (record { items = is; world = w })).ending

-- a turn of a definition, where its expression is this value or has this step
abbrev turn_by : Parameter → List Item → World → Option Value → Option Next → ProgramTurn
turn_by q is w (Some v) s = to (record { items = defined q v is; world = w })
turn_by q is w None s = item_next q is s

turn_is : (q : Parameter) (e : Core) (is : List Item) (w : World) (o : Option Value) → let_turn q e is w o ≡ turn_by q is w o (step e w)
turn_is q e is w (Some v) = refl
turn_is q e is w None = refl

-- one step of a definition, and what comes after it
calm_turn : (n : ℕ) (q : Parameter) (e : Core) (is : List Item) (w : World) (o : Option Value) (s : Option Next) (Q : Value → Type 0) (go : Core → World → Type 0) → Turn o s ⊥ Q go → ((v : Value) → Q v → IsCalmFrom n (defined q v is) w) → ((d : Core) (u : World) → go d u → IsCalmFrom n (let_item q d ∷ is) u) → IsCalm (after_turn (turn_by q is w o s) w (outcome_from n)).ending
calm_turn n q e is w (Some v) s Q go h f g = f v h
calm_turn n q e is w None (Some (goes d u)) Q go h f g = g d u h
calm_turn n q e is w None (Some (faults k p)) Q go h f g = absurd h
calm_turn n q e is w None (Some (ends p)) Q go h f g = tt
calm_turn n q e is w None None Q go h f g = absurd h

pub item_calm : (n : ℕ) (q : Parameter) (e : Core) (is : List Item) (w : World) (Q : ℕ → Value → World → Type 0) → RunsWell n e w Q → ((k : ℕ) (v : Value) (u : World) → suc k ≤ n → Q (suc k) v u → IsCalmFrom k (defined q v is) u) → IsCalmFrom n (let_item q e ∷ is) w
item_calm zero q e is w Q h f = tt
item_calm (suc n) q e is w Q h f =
    subst (λ z. IsCalm (after_turn z w (outcome_from n)).ending) (sym (turn_is q e is w (as_value e))) (calm_turn n q e is w (as_value e) (step e w) (λ v. Q (suc n) v w) (λ d u. RunsWell n d u Q) h (λ v k. f n v w (omega numbers) k) (λ d u r. item_calm n q d is u Q r (λ k v z le a. f k v z (omega (numbers, le)) a)))
