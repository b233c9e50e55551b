-- What the private calls do to the parts.
use Rattle.std.specs.Prelude.{◌≡◌, ◌≢◌, ◌⊎◌, ◌↔◌, ℕ, suc, ◌+◌, ◌<◌, cond, eqb, List, [], ◌∷◌, ◌++◌, length, slice_index, slice_index_or, None}
use Rattle.lq_prover_congruence.specs.Ring.Ring.{IsTogether, times}
use Rattle.lq_prover_congruence.specs.Classes.Terms.{Term, find_in, term_in}
use Rattle.lq_prover_congruence.specs.Classes.Steps.{IsSame}
use Rattle.lq_prover_congruence.specs.Classes.Core.{Core, IsShaped, AllFound, signature}
use Rattle.lq_prover_congruence.specs.Classes.Standing.{core_of, steps_of, HasUses, IsAdded, IsJoined, IsFiledNow, IsSound, Does, StepDoes, Leads}
use Rattle.lq_prover_congruence.specs.declared.classes.steps.Entry.{Entry}
use Rattle.lq_prover_congruence.specs.declared.classes.steps.Entry.TheVariants.{Done, Joined, Filed}
use Rattle.lq_prover_congruence.specs.declared.classes.steps.Step.{Step}
use Rattle.lq_prover_congruence.specs.declared.classes.state.State.{State}

-- two rings became one
abbrev pub JoinsRings : List ℕ → List ℕ → ℕ → ℕ → Type 0
JoinsRings old new kept moved = (i j : ℕ) → IsTogether new i j ↔ (IsTogether old i j ⊎ ((IsTogether old i kept × IsTogether old moved j) ⊎ (IsTogether old i moved × IsTogether old kept j)))

-- what does not change where terms are joined and filed
pub record IsBeside (s t : State) : Type 0 where
  pub known : t.known ≡ s.known
  pub uses : t.uses.items ≡ s.uses.items
  pub sizes : length t.sizes.items ≡ length s.sizes.items
  pub steps : t.steps ≡ s.steps

-- nothing that counts has changed
pub record IsAsBefore (s t : State) : Type 0 where
  pub core : core_of t ≡ core_of s
  pub trail : t.trail.items ≡ s.trail.items
  pub beside : IsBeside s t

-- the queue grew
abbrev pub KeepsQueue : List ℕ → List ℕ → Type 0
KeepsQueue queue more = (i : ℕ) → 0 < times i queue → 0 < times i more

pub record Unites (s t : State) (kept moved : ℕ) (queue more : List ℕ) : Type 0 where
  pub joined : IsJoined kept moved (core_of s) (core_of t)
  pub rings : JoinsRings s.rings t.rings kept moved
  pub trail : t.trail.items ≡ s.trail.items ++ Joined kept moved ∷ []
  pub beside : IsBeside s t
  pub keeps : KeepsQueue queue more
  pub users : (i a : ℕ) → i < length s.known → 0 < times a (term_in s.known i).1 → slice_index s.labels.items a ≡ moved → 0 < times i more

-- a label that is its own
abbrev pub IsOwn : State → ℕ → Type 0
IsOwn s l = (l < length s.known) × (slice_index s.labels.items l ≡ l)

-- the parts with which terms can be joined and filed
pub record IsReady (s : State) : Type 0 where
  pub shaped : IsShaped (core_of s)
  pub uses : HasUses s.known s.uses.items
  pub sizes : length s.sizes.items ≡ length s.known

-- terms were joined and filed, and nothing else was done
pub record Goes (s t : State) : Type 0 where
  pub entries : List Entry
  pub trail : t.trail.items ≡ s.trail.items ++ entries
  pub steps : steps_of entries ≡ []
  pub leads : Leads entries (core_of s) (core_of t)
  pub shaped : IsShaped (core_of t)
  pub coarser : (i j : ℕ) → i < length s.known → j < length s.known → slice_index s.labels.items i ≡ slice_index s.labels.items j → slice_index t.labels.items i ≡ slice_index t.labels.items j
  pub beside : IsBeside s t

-- how many labels are their own
abbrev pub roots : ℕ → List ℕ → ℕ
roots n [] = 0
roots n (l ∷ ls) = cond (eqb l n) 1 0 + roots (suc n) ls

-- a term was filed under its signature, where none was
pub record Files (s t : State) (term : ℕ) : Type 0 where
  pub none : find_in s.filed (signature s.labels.items (term_in s.known term)) ≡ None
  pub now : IsFiledNow (core_of s) (core_of t)
  pub entry : now.entry ≡ (signature s.labels.items (term_in s.known term), term)
  pub trail : t.trail.items ≡ s.trail.items ++ Filed ∷ []
  pub beside : IsBeside s t

-- all terms but those that wait are found under their signatures, where the labels l and m may count as one
pub record IsWorking (s : State) (queue : List ℕ) (l m : ℕ) : Type 0 where
  pub sound : IsSound (steps_of s.trail.items) (core_of s)
  pub uses : HasUses s.known s.uses.items
  pub sizes : length s.sizes.items ≡ length s.known
  pub found : AllFound (core_of s) l m queue

-- two labels of terms that have to be the same
pub record IsClash (s : State) (l m : ℕ) : Type 0 where
  pub left : IsOwn s l
  pub right : IsOwn s m
  pub differ : l ≢ m
  pub same : IsSame (steps_of s.trail.items) l m

-- what stays in order while the trail grows and shrinks
pub record IsInOrder (s : State) : Type 0 where
  pub shaped : IsShaped (core_of s)
  pub uses : HasUses s.known s.uses.items
  pub sizes : length s.sizes.items ≡ length s.known
  pub steps : s.steps ≡ length (steps_of s.trail.items)

-- the last entry of the trail led here
pub record LastLed (s : State) : Type 0 where
  pub before : List Entry
  pub entry : Entry
  pub trail : s.trail.items ≡ before ++ entry ∷ []
  pub from : Core
  pub shaped : IsShaped from
  pub did : Does entry from (core_of s)

-- the entries of the trail past a length led here
pub record LedFrom (s : State) (n : ℕ) : Type 0 where
  pub base : List Entry
  pub entries : List Entry
  pub trail : s.trail.items ≡ base ++ entries
  pub long : length base ≡ n
  pub from : Core
  pub leads : Leads entries from (core_of s)

-- what the entries past a length did is undone
abbrev pub GoesBack : State → State → ℕ → Type 0
GoesBack s t n = (base entries : List Entry) (from : Core) → s.trail.items ≡ base ++ entries → length base ≡ n
    → Leads entries from (core_of s) → (t.trail.items ≡ base) × (core_of t ≡ from)

-- nothing that counts has changed, though terms may be listed as users that aren't
pub record IsBack (s t : State) : Type 0 where
  pub core : core_of t ≡ core_of s
  pub trail : t.trail.items ≡ s.trail.items
  pub uses : HasUses t.known t.uses.items
  pub sizes : length t.sizes.items ≡ length t.known
  pub steps : t.steps ≡ s.steps

-- one step more, and what it does by itself
pub record Steps (s t : State) (step : Step) : Type 0 where
  pub did : StepDoes step (core_of s) (core_of t)
  pub trail : t.trail.items ≡ s.trail.items ++ Done step ∷ []
  pub order : IsInOrder t

-- one term more, with its users
pub record Grows (s t : State) (term : Term) (step : Step) (users : List ℕ) : Type 0 where
  pub added : IsAdded term (core_of s) (core_of t)
  pub rings : (i j : ℕ) → IsTogether t.rings i j ↔ (IsTogether s.rings i j ⊎ ((i ≡ length s.rings) × (j ≡ i)))
  pub trail : t.trail.items ≡ s.trail.items ++ Done step ∷ []
  pub uses : t.uses.items ≡ s.uses.items ++ users ∷ []
  pub sizes : length t.sizes.items ≡ length s.sizes.items + 1
  pub steps : t.steps ≡ s.steps + 1

abbrev pub KeepsUses : List (List ℕ) → List (List ℕ) → Type 0
KeepsUses old new = (a i : ℕ) → 0 < times i (slice_index_or old a []) → 0 < times i (slice_index_or new a [])
