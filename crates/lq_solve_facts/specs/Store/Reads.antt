-- Instances that were read.
use Rattle.std.specs.Prelude.{◌≡◌, ◌<◌, ◌≤◌, ℕ, Bool, true, List, Some, length, map, slice_get}
use Rattle.lq_solve_facts.specs.Facts.Known.{IsReadOf}
use Rattle.lq_solve_facts.specs.declared.facts.known.Known.{Known}
use Rattle.lq_refined_types.specs.Parts.Substitution.{Subst, formula_by}
use Rattle.lq_logic_predicates.specs.Formula.{Formula}
use Rattle.lq_solve_facts.specs.Store.Store.{Standing}
use Rattle.lq_solve_facts.specs.declared.store.reading.ReadInstance.{ReadInstance}
use Rattle.lq_solve_facts.specs.declared.store.store.PartPlace.{PartPlace}

-- the instances, with something put for their names, stand at the place by their numbers
abbrev pub StandUnder : Standing → PartPlace → Subst → List Formula → Type 0
StandUnder F place σ instances = (n : ℕ) → F place n ≡ slice_get (map (formula_by σ) instances) n

-- the reading is that of the instance of its number, with something put for its names, which is chosen
pub record IsChosenRead (known : Known) (chosen : ℕ → Bool) (σ : Subst) (instances : List Formula) (r : ReadInstance) : Type 0 where
  pub instance : Formula
  pub here : slice_get instances r.number ≡ Some instance
  pub is_chosen : chosen r.number ≡ true
  pub read : IsReadOf known r.read.value (formula_by σ instance)

-- one of the readings has this number
pub record HasNumber (reads : List ReadInstance) (number : ℕ) : Type 0 where
  pub at : ℕ
  pub read : ReadInstance
  pub here : slice_get reads at ≡ Some read
  pub is : read.number ≡ number

-- these are readings of chosen instances, and each chosen one from the n-th on has one
pub record AreReadFrom (n : ℕ) (known : Known) (chosen : ℕ → Bool) (σ : Subst) (instances : List Formula) (reads : List ReadInstance) : Type 0 where
  pub each : (at : ℕ) (r : ReadInstance) → slice_get reads at ≡ Some r → IsChosenRead known chosen σ instances r
  pub all : (i : ℕ) → n ≤ i → i < length instances → chosen i ≡ true → HasNumber reads i

-- these are the readings of the chosen instances
abbrev pub AreReads : Known → (ℕ → Bool) → Subst → List Formula → List ReadInstance → Type 0
AreReads = AreReadFrom 0
