-- How the classes came to be what they are.
use Rattle.std.specs.Prelude.{◌≡◌, ◌≢◌, ℕ, suc, ◌<◌, List, [], ◌∷◌, ◌++◌, length, swap, slice_index, slice_index_or}
use Rattle.lq_prover_congruence.specs.Ring.Ring.{times}
use Rattle.lq_prover_congruence.specs.Classes.Terms.{Term, term_in}
use Rattle.lq_prover_congruence.specs.Classes.Steps.{terms_of, IsMerge, IsDifference, IsSame}
use Rattle.lq_prover_congruence.specs.Classes.Core.{Core, empty, relabelled, IsShaped, AllFound}
use Rattle.lq_prover_congruence.specs.declared.classes.steps.Step.{Step}
use Rattle.lq_prover_congruence.specs.declared.classes.steps.Step.TheVariants.{Added, Merged, Differed}
use Rattle.lq_prover_congruence.specs.declared.classes.steps.Entry.{Entry}
use Rattle.lq_prover_congruence.specs.declared.classes.steps.Entry.TheVariants.{Done, Joined, Filed}
use Rattle.lq_prover_congruence.specs.declared.classes.state.State.{State}

abbrev pub step_of : Entry → List Step
step_of (Done s) = s ∷ []
step_of (Joined k m) = []
step_of Filed = []

abbrev pub steps_of : List Entry → List Step
steps_of [] = []
steps_of (e ∷ es) = step_of e ++ steps_of es

abbrev pub core_of : State → Core
core_of s = record { known = s.known; labels = s.labels.items; next = s.rings; filed = s.filed }

-- the terms with their numbers
abbrev pub numbered : ℕ → List Term → List (Term × ℕ)
numbered n [] = []
numbered n (t ∷ ts) = (t, n) ∷ numbered (suc n) ts

-- one more term, in a ring of its own
pub record IsAdded (t : Term) (b c : Core) : Type 0 where
  pub known : c.known ≡ b.known ++ (t, length b.known) ∷ []
  pub labels : c.labels ≡ b.labels ++ length b.known ∷ []
  pub next : c.next ≡ b.next ++ length b.known ∷ []
  pub filed : c.filed ≡ b.filed

-- two classes joined under the label of one of them
pub record IsJoined (kept moved : ℕ) (b c : Core) : Type 0 where
  pub known : c.known ≡ b.known
  pub labels : c.labels ≡ relabelled b.labels kept moved
  pub next : c.next ≡ swap b.next kept moved
  pub filed : c.filed ≡ b.filed
  pub kept_in : kept < length b.known
  pub moved_in : moved < length b.known
  pub kept_rests : slice_index b.labels kept ≡ kept
  pub moved_rests : slice_index b.labels moved ≡ moved
  pub differ : kept ≢ moved

-- one more signature
pub record IsFiledNow (b c : Core) : Type 0 where
  pub known : c.known ≡ b.known
  pub labels : c.labels ≡ b.labels
  pub next : c.next ≡ b.next
  pub entry : Term × ℕ
  pub filed : c.filed ≡ b.filed ++ entry ∷ []

abbrev pub StepDoes : Step → Core → Core → Type 0
StepDoes (Added h xs) b c = IsAdded (h, xs) b c
StepDoes (Merged l r reason) b c = b ≡ c
StepDoes (Differed l r) b c = b ≡ c

-- what an entry of the trail did
abbrev pub Does : Entry → Core → Core → Type 0
Does (Done s) b c = StepDoes s b c
Does (Joined kept moved) b c = IsJoined kept moved b c
Does Filed b c = IsFiledNow b c

-- the entries lead from one to the other
abbrev pub Leads : List Entry → Core → Core → Type 0
Leads [] o c = o ≡ c
Leads (e ∷ es) o c = (m : Core) × IsShaped o × Does e o m × Leads es m c

-- each label is a class of the congruence, though perhaps not the whole of one
pub record IsSound (steps : List Step) (c : Core) : Type 0 where
  pub shaped : IsShaped c
  pub terms : c.known ≡ numbered 0 (terms_of steps)
  pub sound : (i j : ℕ) → i < length c.known → j < length c.known → slice_index c.labels i ≡ slice_index c.labels j → IsSame steps i j

abbrev pub MergesMet : List Step → Core → Type 0
MergesMet steps c = (a b reason : ℕ) → IsMerge steps a b reason → (a < length c.known) × (b < length c.known) × (slice_index c.labels a ≡ slice_index c.labels b)

abbrev pub DifferencesIn : List Step → Core → Type 0
DifferencesIn steps c = (a b : ℕ) → IsDifference steps a b → (a < length c.known) × (b < length c.known)

-- the labels are the classes of the congruence
pub record IsExact (steps : List Step) (c : Core) : Type 0 where
  pub is : IsSound steps c
  pub merges : MergesMet steps c
  pub differences : DifferencesIn steps c
  pub found : AllFound c 0 0 []

-- before a step the labels were the classes
abbrev pub ExactBefore : Entry → List Step → Core → Type 0
ExactBefore (Done s) steps c = IsExact steps c
ExactBefore (Joined k m) steps c = Unit {0}
ExactBefore Filed steps c = Unit {0}

-- the same with what held before each step
abbrev pub Story : List Step → List Entry → Core → Core → Type 0
Story steps [] o c = o ≡ c
Story steps (e ∷ es) o c = (m : Core) × IsShaped o × Does e o m × ExactBefore e steps o × Story (steps ++ step_of e) es m c

-- the users of each term are listed
pub record HasUses (known : List (Term × ℕ)) (uses : List (List ℕ)) : Type 0 where
  pub each : length uses ≡ length known
  pub listed : (i a : ℕ) → i < length known → 0 < times a (term_in known i).1 → 0 < times i (slice_index_or uses a [])

pub record IsStanding (s : State) : Type 0 where
  pub exact : IsExact (steps_of s.trail.items) (core_of s)
  pub story : Story [] s.trail.items empty (core_of s)
  pub uses : HasUses s.known s.uses.items
  pub sizes : length s.sizes.items ≡ length s.known
  pub steps : s.steps ≡ length (steps_of s.trail.items)
