-- When two programs have the same outcomes.
use Rattle.std.specs.Prelude.{◌≡◌, ℕ, ℤ, List, ◌⊎◌, ◌↔◌}
use Rattle.lq_base_names.specs.declared.place.Place.{Place}
use Rattle.lq_meaning_steps.specs.declared.model.fault.FaultKind.{FaultKind}
use Rattle.lq_meaning_steps.specs.Model.Program.{Item, running, fault, stuck, Outcome, outcome, IsSafe, IsNeverStuck}
use Rattle.lq_meaning_steps.specs.Model.Laws.{IsOver}
use Rattle.lq_meaning_steps.specs.Model.Meaning.{program_meaning}

-- after some number of steps on this input the program has this outcome
abbrev pub ComesTo : List Item → List ℤ → Outcome → Type 0
ComesTo is input o = (n : ℕ) × (outcome is input n ≡ o)

-- after some number of steps it has this output
abbrev pub Outputs : List Item → List ℤ → List ℤ → Type 0
Outputs is input o = (n : ℕ) × ((outcome is input n).output ≡ o)

-- it goes on for ever
abbrev pub IsEndless : List Item → List ℤ → Type 0
IsEndless is input = (n : ℕ) → (outcome is input n).ending ≡ running

-- On each input: the one is over, with an ending and an output, where the other is; the one goes on for ever where the other does; and each
-- output that the one reaches the other reaches.
pub record HaveSameOutcomes (is js : List Item) : Type 0 where
  pub over : (input : List ℤ) (o : Outcome) → IsOver o.ending → ComesTo is input o ↔ ComesTo js input o
  pub endless : (input : List ℤ) → IsEndless is input ↔ IsEndless js input
  pub outputs : (input : List ℤ) (o : List ℤ) → Outputs is input o ↔ Outputs js input o

-- at every bound on nested calls and on every input the first one's meaning is stuck, or both mean the same
abbrev pub MeanTheSame : List Item → List Item → Type 0
MeanTheSame is js = (n : ℕ) (input : List ℤ) → ((program_meaning n is input).ending ≡ stuck) ⊎ (program_meaning n is input ≡ program_meaning n js input)

-- so two programs have the same outcomes where they mean the same and the first one is never stuck
abbrev pub SameMeaningSameOutcomes : Type 0
SameMeaningSameOutcomes = (is js : List Item) → MeanTheSame is js → IsNeverStuck is → HaveSameOutcomes is js

-- and a program that is never stuck is never so by its meaning, and the other way round
abbrev pub NeverStuckByMeaning : Type 0
NeverStuckByMeaning = (is : List Item) → IsNeverStuck is ↔ ((input : List ℤ) (n : ℕ) → (program_meaning n is input).ending ≡ stuck → ⊥)

-- so a program that is never stuck is safe exactly where no number of steps meets a fault
abbrev pub MeetsNoFault : List Item → Type 0
MeetsNoFault is = (input : List ℤ) (n : ℕ) (k : FaultKind) (p : Place) → (outcome is input n).ending ≡ fault k p → ⊥

abbrev pub SafeWithoutFaults : Type 0
SafeWithoutFaults = (is : List Item) → IsNeverStuck is → IsSafe is ↔ MeetsNoFault is
