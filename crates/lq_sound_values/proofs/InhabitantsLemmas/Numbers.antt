-- What holds below a number is what holds at each number below it.
use Rattle.std.proofs.Common.{◌≡◌, ℕ, zero, suc, ◌<◌, ◌++◌, append_assoc, append-nil, slice_get, Option, Some, ◌⊎◌, inl, inr, [], ◌∷◌, refl, sym, ap, ◌∙◌, subst, arith as numbers}
use Rattle.lq_meaning_steps.specs.Model.Core.{val, call, Value}
use Rattle.lq_meaning_steps.specs.Model.Operations.{World}
use Rattle.lq_refined_types.specs.Types.Refined.{Refined}
use Rattle.lq_sound_values.specs.Inhabitants.Truth.{Givens, Scene}
use Rattle.lq_sound_values.specs.Inhabitants.Shut.{Shut, shut, Shuts, with_argument}
use Rattle.lq_sound_values.specs.Inhabitants.Inhabits.{Slot, Table, Extends, Elements, SameFits, CallsBelow, SameBelow, ElementsBelow, Inhabits}
use Rattle.lq_sound_values.specs.Inhabitants.Runs.{CallAt}
use Rattle.lq_sound_values.proofs.InhabitantsLemmas.Running.{run_runs, runs_run}

last_or : (m n : ℕ) → m < suc n → (m ≡ n) ⊎ (m < n)
last_or zero zero h = inl refl
last_or zero (suc n) h = inr (omega numbers)
last_or (suc m) zero h = absurd (omega numbers)
last_or (suc m) (suc n) h = elim (last_or m n (omega numbers)) [ inl e ↦ inl (ap suc e) | inr l ↦ inr (omega numbers) ]

-- what holds at each number below n
at_below : (P B : ℕ → Type 0) → ((n : ℕ) → B (suc n) → B n × P n) → (n m : ℕ) → m < n → B n → P m
at_below P B parts zero m lt h = absurd (omega numbers)
at_below P B parts (suc n) m lt h =
    elim (last_or m n lt) [ inl e ↦ subst P (sym e) (parts n h).1 | inr l ↦ at_below P B parts n m l (parts n h).0 ]

make_below : (P B : ℕ → Type 0) → B zero → ((n : ℕ) → B n → P n → B (suc n)) → (n : ℕ) → ((m : ℕ) → m < n → P m) → B n
make_below P B start more zero f = start
make_below P B start more (suc n) f =
    more n (make_below P B start more n (λ m lt. f m (omega numbers))) (f n (omega numbers))

pub calls_at : (S : Scene) (g : Value) (W : Table) (σ : Givens) (by : Shuts) (x : Option ℕ) (A T : Refined) (n m : ℕ) → m < n → CallsBelow S n g W σ by x A T → CallAt S m g W σ by x A T
calls_at S g W σ by x A T =
    at_below (λ k. CallAt S k g W σ by x A T) (λ k. CallsBelow S k g W σ by x A T) (λ k b. (b.0, λ V a w ext fit ag. run_runs S k V (shut (with_argument x a σ) by T) (call (val g) (val a)) w (b.1 V a w ext fit ag)))

pub calls_make : (S : Scene) (g : Value) (W : Table) (σ : Givens) (by : Shuts) (x : Option ℕ) (A T : Refined) (n : ℕ) → ((m : ℕ) → m < n → CallAt S m g W σ by x A T) → CallsBelow S n g W σ by x A T
calls_make S g W σ by x A T =
    make_below (λ k. CallAt S k g W σ by x A T) (λ k. CallsBelow S k g W σ by x A T) tt (λ k b p. (b, λ V a w ext fit ag. runs_run S k V (shut (with_argument x a σ) by T) (call (val g) (val a)) w (p V a w ext fit ag)))

pub same_at : (S : Scene) (W : Table) (K : Slot) (E : Shut) (n m : ℕ) → m < n → SameBelow S n W K E → SameFits (Inhabits S m) W K E
same_at S W K E = at_below (λ k. SameFits (Inhabits S k) W K E) (λ k. SameBelow S k W K E) (λ k b. b)

pub same_make : (S : Scene) (W : Table) (K : Slot) (E : Shut) (n : ℕ) → ((m : ℕ) → m < n → SameFits (Inhabits S m) W K E) → SameBelow S n W K E
same_make S W K E = make_below (λ k. SameFits (Inhabits S k) W K E) (λ k. SameBelow S k W K E) tt (λ k b p. (b, p))

pub elements_at : (S : Scene) (W : Table) (w : World) (n m : ℕ) → m < n → ElementsBelow S n W w → Elements (Inhabits S m) W w
elements_at S W w = at_below (λ k. Elements (Inhabits S k) W w) (λ k. ElementsBelow S k W w) (λ k b. b)

pub elements_make : (S : Scene) (W : Table) (w : World) (n : ℕ) → ((m : ℕ) → m < n → Elements (Inhabits S m) W w) → ElementsBelow S n W w
elements_make S W w = make_below (λ k. Elements (Inhabits S k) W w) (λ k. ElementsBelow S k W w) tt (λ k b p. (b, p))

pub extends_self : (W : Table) → Extends W W
extends_self W = ([], sym (append-nil W))

pub extends_on : (U V W : Table) → Extends U V → Extends V W → Extends U W
extends_on U V W e f = (e.0 ++ f.0, f.1 ∙ ap (λ l. l ++ f.0) e.1 ∙ append_assoc U e.0 f.0)

pub kept_by : (r : ℕ) (W more : Table) (K : Slot) → slice_get W r ≡ Some K → slice_get (W ++ more) r ≡ Some K
kept_by r [] more K h = absurd (cc)
kept_by zero (L ∷ W) more K h = h
kept_by (suc r) (L ∷ W) more K h = kept_by r W more K h

pub kept : (r : ℕ) (W V : Table) (K : Slot) → Extends W V → slice_get W r ≡ Some K → slice_get V r ≡ Some K
kept r W V K e h = rw (e.1, kept_by r W e.0 K h)
