-- The steps of a state give exactly what the functions give.
use Rattle.std.proofs.Common.{◌≡◌, ℕ, zero, suc, List, [], ◌∷◌, Option, Some, None, refl, sym, ap, subst, ◌∙◌}
use Rattle.lq_meaning_steps.specs.Model.Core.{Parameter, Core, Value, as_value}
use Rattle.lq_meaning_steps.specs.Model.Operations.{World}
use Rattle.lq_meaning_steps.specs.Model.Step.{Next, goes, faults, ends}
use Rattle.lq_meaning_steps.specs.Model.StepFunction.{step}
use Rattle.lq_meaning_steps.specs.Model.Program.{Item, let_item, rec_item, defined, State, stuck, Outcome, Turn, to, over, item_next, let_turn, turn_of, turn, after_turn, outcome_from, outcome, started, IsCalm}
use Rattle.lq_meaning_steps.specs.Model.Run.{state, Transition, define_value, define_function, item_goes, item_faults, item_ends, Reaches, no_steps, goes_on, breaks_off, is_finished, is_stuck}
use Rattle.lq_meaning_steps.specs.Model.Laws.{IsDeterminedOnStates, HasOneOutcome, IsSafeBySteps}
use Rattle.lq_meaning_steps.proofs.ModelLemmas.Rows.{step_from, step_to}
use Rattle.lq_meaning_steps.proofs.ModelLemmas.Adequate.{no_value}

-- ---- one step

item_from : (q : Parameter) (e : Core) (n : Next) (is : List Item) (w : World) → as_value e ≡ None → step e w ≡ Some n → turn_of (let_item q e ∷ is) w ≡ item_next q is (Some n)
item_from q e n is w h k = ap (let_turn q e is w) h ∙ ap (item_next q is) k

turn_from : (s : State) (t : Turn) → Transition s t → turn s ≡ t
turn_from _ _ (define_value q e v is w h) = ap (let_turn q e is w) h
turn_from _ _ (define_function f q b is w) = refl
turn_from _ _ (item_goes q e d is w u s) = item_from q e (goes d u) is w (no_value e w (goes d u) s) (step_from e w (goes d u) s)
turn_from _ _ (item_faults q e k p is w s) = item_from q e (faults k p) is w (no_value e w (faults k p) s) (step_from e w (faults k p) s)
turn_from _ _ (item_ends q e p is w s) = item_from q e (ends p) is w (no_value e w (ends p) s) (step_from e w (ends p) s)

pub determined : IsDeterminedOnStates
determined s t r h k = sym (turn_from s t h) ∙ turn_from s r k

-- no row gives a stuck run
never_stuck : (s : State) (t : Turn) → Transition s t → t ≡ over stuck → ⊥
never_stuck _ _ (define_value q e v is w h) k = cc
never_stuck _ _ (define_function f q b is w) k = cc
never_stuck _ _ (item_goes q e d is w u s) k = cc
never_stuck _ _ (item_faults q e f p is w s) k = cc
never_stuck _ _ (item_ends q e p is w s) k = cc

-- a state with no row is stuck
stuck_next : (q : Parameter) (e : Core) (is : List Item) (w : World) (o : Option Next) → step e w ≡ o → ((t : Turn) → Transition (state (let_item q e ∷ is) w) t → ⊥)
    → item_next q is o ≡ over stuck
stuck_next q e is w None h none = refl
stuck_next q e is w (Some (goes d u)) h none = absurd (none _ (item_goes q e d is w u (step_to e w (goes d u) h)))
stuck_next q e is w (Some (faults k p)) h none = absurd (none _ (item_faults q e k p is w (step_to e w (faults k p) h)))
stuck_next q e is w (Some (ends p)) h none = absurd (none _ (item_ends q e p is w (step_to e w (ends p) h)))

stuck_let : (q : Parameter) (e : Core) (is : List Item) (w : World) (o : Option Value) → as_value e ≡ o → ((t : Turn) → Transition (state (let_item q e ∷ is) w) t → ⊥)
    → let_turn q e is w o ≡ over stuck
stuck_let q e is w None h none = stuck_next q e is w (step e w) refl none
stuck_let q e is w (Some v) h none = absurd (none _ (define_value q e v is w h))

stuck_turn : (i : Item) (is : List Item) (w : World) → ((t : Turn) → Transition (state (i ∷ is) w) t → ⊥) → turn_of (i ∷ is) w ≡ over stuck
stuck_turn (let_item q e) is w none = stuck_let q e is w (as_value e) refl none
stuck_turn (rec_item f q b) is w none = absurd (none _ (define_function f q b is w))

-- ---- outcomes

outcome_after : (n : ℕ) (s : State) (t : Turn) → turn s ≡ t → outcome_from (suc n) s ≡ after_turn t s.world (outcome_from n)
outcome_after n s t h = ap (λ x. after_turn x s.world (outcome_from n)) h

only_outcome : (n : ℕ) (s : State) (o : Outcome) → Reaches n s o → o ≡ outcome_from n s
only_outcome _ _ _ (no_steps s) = refl
only_outcome _ _ _ (goes_on n s t o h r) = only_outcome n t o r ∙ sym (outcome_after n s (to t) (turn_from s (to t) h))
only_outcome _ _ _ (breaks_off n s e h) = sym (outcome_after n s (over e) (turn_from s (over e) h))
only_outcome _ _ _ (is_finished n w) = refl
only_outcome _ _ _ (is_stuck n i is w none) = sym (outcome_after n (state (i ∷ is) w) (over stuck) (stuck_turn i is w none))

abbrev Reached : ℕ → Type 0
Reached n = (s : State) → Reaches n s (outcome_from n s)

reached_next : (n : ℕ) → Reached n → (q : Parameter) (e : Core) (is : List Item) (w : World) (o : Option Next) → as_value e ≡ None → step e w ≡ o
    → Reaches (suc n) (state (let_item q e ∷ is) w) (after_turn (item_next q is o) w (outcome_from n))
reached_next n go q e is w (Some (goes d u)) h k = goes_on n _ _ _ (item_goes q e d is w u (step_to e w (goes d u) k)) (go (state (let_item q d ∷ is) u))
reached_next n go q e is w (Some (faults f p)) h k = breaks_off n _ _ (item_faults q e f p is w (step_to e w (faults f p) k))
reached_next n go q e is w (Some (ends p)) h k = breaks_off n _ _ (item_ends q e p is w (step_to e w (ends p) k))
reached_next n go q e is w None h k =
    is_stuck n (let_item q e) is w (λ t r.
    never_stuck _ t r (sym (turn_from _ t r) ∙ ap (let_turn q e is w) h ∙ ap (item_next q is) k))

reached_let : (n : ℕ) → Reached n → (q : Parameter) (e : Core) (is : List Item) (w : World) (o : Option Value) → as_value e ≡ o
    → Reaches (suc n) (state (let_item q e ∷ is) w) (after_turn (let_turn q e is w o) w (outcome_from n))
reached_let n go q e is w (Some v) h = goes_on n _ _ _ (define_value q e v is w h) (go (state (defined q v is) w))
reached_let n go q e is w None h = reached_next n go q e is w (step e w) h refl

reached_more : (n : ℕ) → Reached n → (is : List Item) (w : World) → Reaches (suc n) (state is w) (outcome_from (suc n) (state is w))
reached_more n go [] w = is_finished n w
reached_more n go (let_item q e ∷ is) w = reached_let n go q e is w (as_value e) refl
reached_more n go (rec_item f q b ∷ is) w = goes_on n _ _ _ (define_function f q b is w) (go _)

reached : (n : ℕ) → Reached n
reached zero s = no_steps s
reached (suc n) s = reached_more n (reached n) s.items s.world

pub one_outcome : HasOneOutcome
one_outcome is input n = (reached n (started is input), λ o r. only_outcome n (started is input) o r)

pub safe_by_steps : IsSafeBySteps
safe_by_steps is = (
  λ safe input n o r. subst (λ x. IsCalm x.ending) (sym (only_outcome n (started is input) o r)) (safe input n),
  λ calm input n. calm input n (outcome is input n) (reached n (started is input)),
)
