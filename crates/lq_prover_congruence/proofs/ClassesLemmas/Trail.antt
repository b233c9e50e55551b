-- The trail, entry by entry.
use Rattle.std.proofs.Common.{◌≡◌, ℕ, ◌+◌, ◌-◌, ◌≤◌, List, [], ◌∷◌, ◌++◌, length, refl, sym, ap, ◌∙◌, subst, arith, length-append}
use Rattle.lq_prover_congruence.specs.Classes.Core.{Core, IsShaped}
use Rattle.lq_prover_congruence.specs.Classes.Standing.{core_of, step_of, steps_of, HasUses, Does}
use Rattle.lq_prover_congruence.specs.Classes.Moves.{IsInOrder, LastLed}
use Rattle.lq_prover_congruence.specs.declared.classes.head.Head.{Head}
use Rattle.lq_prover_congruence.specs.declared.classes.steps.Step.{Step}
use Rattle.lq_prover_congruence.specs.declared.classes.steps.Step.TheVariants.{Added, Merged, Differed}
use Rattle.lq_prover_congruence.specs.declared.classes.steps.Entry.TheVariants.{Done, Joined, Filed}
use Rattle.lq_prover_congruence.specs.declared.classes.steps.Entry.{Entry}
use Rattle.lq_prover_congruence.specs.declared.classes.state.State.{State}
use Rattle.lq_prover_congruence.proofs.ClassesLemmas.Moving.{steps-append}
use Rattle.lq_prover_congruence.proofs.ClassesLemmas.Undone.{snoc-front, snoc-last}

pub steps-last : (before : List Entry) (e : Entry) → length (steps_of (before ++ e ∷ [])) ≡ length (steps_of before) + length (step_of e)
steps-last before e = omega (arith, ap length (steps-append before (e ∷ [])), length-append (steps_of before) (step_of e ++ []), length-append (step_of e) ([]))

pub steps-few : (es : List Entry) → length (steps_of es) ≤ length es
steps-few [] = omega arith
steps-few (e ∷ es) = omega (arith, length-append (step_of e) (steps_of es), steps-few es, one e)
  where
    one : (e : Entry) → length (step_of e) ≤ 1
    one (Done s) = omega arith
    one (Joined k m) = omega arith
    one Filed = omega arith

pub order-after : (s t : State) (led : LastLed s) → IsInOrder s → core_of t ≡ led.from → t.trail.items ≡ led.before → HasUses t.known t.uses.items → length t.sizes.items ≡ length t.known → t.steps ≡ s.steps - length (step_of led.entry) → IsInOrder t
order-after s t led h core trail uses sizes steps =
    let P : Core → Type 0 = IsShaped in
    record {
      shaped = subst P (sym core) led.shaped;
      uses = uses;
      sizes = sizes;
      steps = omega (arith, steps, h.steps, ap (λ l. length (steps_of l)) led.trail, steps-last led.before led.entry, ap (λ l. length (steps_of l)) trail);
    }

-- what is known of the last entry, once it is off the trail
pub record Popped (s : State) (led : LastLed s) (rest : List Entry) (e : Entry) : Type 0 where
  pub before : rest ≡ led.before
  pub entry : led.entry ≡ e
  pub did : Does e led.from (core_of s)
  pub count : length (step_of led.entry) ≡ length (step_of e)

pub popped-led : (s : State) (led : LastLed s) (rest : List Entry) (f e : Entry) → s.trail.items ≡ rest ++ f ∷ [] → f ≡ e → Popped s led rest e
popped-led s led rest f e t g =
    let same = snoc-last led.before rest led.entry f (sym led.trail ∙ t) ∙ g in
    let P : Entry → Type 0 = λ x. Does x led.from (core_of s) in
    record { before = sym (snoc-front led.before rest led.entry f (sym led.trail ∙ t)); entry = same; did = subst P same led.did; count = ap (λ x. length (step_of x)) same }

pub step-only : (st : Step) → ((h : Head) (xs : List ℕ) → st ≡ Added h xs → ⊥) → (b c : Core) → Does (Done st) b c → b ≡ c
step-only (Added h xs) n b c d = absurd (n h xs refl)
step-only (Merged l r reason) n b c d = d
step-only (Differed l r) n b c d = d
