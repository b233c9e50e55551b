-- What it says of the steps that an expression, or a program, means something in an environment.
use Rattle.std.specs.Prelude.{◌≡◌, ℕ, suc, ◌≤◌, ◌<◌, ℤ, List, ◌⊎◌, ◌↔◌, Option, None, Some}
use Rattle.lq_meaning_steps.specs.Model.Core.{Core, Value, Pairs, close, as_value}
use Rattle.lq_meaning_steps.specs.Model.Operations.{World}
use Rattle.lq_meaning_steps.specs.Model.Step.{Next, goes, faults, ends, Step}
use Rattle.lq_meaning_steps.specs.Model.StepFunction.{step}
use Rattle.lq_meaning_steps.specs.Model.Program.{Item, outcome, IsCalm, IsSafe}
use Rattle.lq_meaning_steps.specs.Model.Meaning.{Answer, comes, fails, runs_out, too_deep, gets_stuck, meaning, program_meaning}
use Rattle.lq_meaning_steps.specs.Model.Laws.{IsOver}

-- so many steps lead from an expression and a world to others
pub data Steps : ℕ → Core → World → Core → World → Type 0 where
  here : (e : Core) (w : World) → Steps 0 e w e w
  onward : (k : ℕ) (e d c : Core) (w u t : World) → Step e w (goes d u) → Steps k d u c t → Steps (suc k) e w c t

-- no value, and no step
abbrev pub IsStuck : Core → World → Type 0
IsStuck e w = (as_value e ≡ None) × ((n : Next) → Step e w n → ⊥)

-- What the steps of an expression do, where its meaning answers so: they come to the value, to the fault, to the end of the input, or to a
-- form that is stuck, each in that world; where calls nest deeper than n, they go on for at least n steps, to that world.
abbrev pub Does : ℕ → Core → World → Answer → Type 0
Does n e w (comes v u) = (k : ℕ) × (d : Core) × Steps k e w d u × (as_value d ≡ Some v)
Does n e w (fails f p u) = (k : ℕ) × (d : Core) × Steps k e w d u × Step d u (faults f p)
Does n e w (runs_out p u) = (k : ℕ) × (d : Core) × Steps k e w d u × Step d u (ends p)
Does n e w (too_deep u) = (k : ℕ) × (d : Core) × Steps k e w d u × (n ≤ k)
Does n e w (gets_stuck u) = (k : ℕ) × (d : Core) × Steps k e w d u × IsStuck d u

-- the steps of an expression, closed by an environment, do what it means there
abbrev pub IsAdequate : Type 0
IsAdequate = (n : ℕ) (e : Core) (env : Pairs) (w : World) → Does n (close env e) w (meaning n e env w)

-- what an expression has come to that has no further step: its value, the fault, the end of the input, or a form that is stuck
abbrev pub end_by : Option Value → Option Next → World → Option Answer
end_by (Some v) n w = Some (comes v w)
end_by None None w = Some (gets_stuck w)
end_by None (Some (goes d u)) w = None
end_by None (Some (faults k p)) w = Some (fails k p w)
end_by None (Some (ends p)) w = Some (runs_out p w)

abbrev pub end_of : Core → World → Option Answer
end_of e w = end_by (as_value e) (step e w) w

-- what an expression comes to after fewer than n steps, it means with calls that nest n deep
abbrev pub IsComplete : Type 0
IsComplete =
    (n k : ℕ) (e d : Core) (env : Pairs) (w u : World) (a : Answer) → k < n → Steps k (close env e) w d u → end_of d u ≡ Some a → meaning n e env w ≡ a

-- A program comes by its steps to what it means. Where its calls nest deeper than n, it goes on for at least n steps, with the output that
-- it has by then.
abbrev pub IsAdequateOfPrograms : Type 0
IsAdequateOfPrograms =
    (is : List Item) (input : List ℤ) (n : ℕ)
    → (m : ℕ) × (outcome is input m ≡ program_meaning n is input) × (IsOver (program_meaning n is input).ending ⊎ (n ≤ m))

-- what a run has come to after n steps, the program means with calls that nest n deep
abbrev pub IsCompleteOfPrograms : Type 0
IsCompleteOfPrograms = (is : List Item) (input : List ℤ) (n : ℕ) → IsOver (outcome is input n).ending → program_meaning n is input ≡ outcome is input n

-- so a program is safe exactly where it means neither a fault nor a form that is stuck, however deep its calls may nest
abbrev pub IsSafeByMeaning : Type 0
IsSafeByMeaning = (is : List Item) → IsSafe is ↔ ((input : List ℤ) (n : ℕ) → IsCalm (program_meaning n is input).ending)
