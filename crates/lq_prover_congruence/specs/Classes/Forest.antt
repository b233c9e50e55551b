-- The merges that made terms the same, as a forest: each term has an edge towards the root of its tree.
use Rattle.std.specs.Prelude.{◌≡◌, ◌≢◌, ◌⊎◌, ℕ, zero, suc, ◌<◌, ◌≤◌, cond, eqb, nat_le, List, [], ◌∷◌, ◌++◌, length, take, slice_index_or, Option, Some, None}
use Rattle.lq_prover_congruence.specs.Classes.Terms.{Term}
use Rattle.lq_prover_congruence.specs.Classes.Steps.{IsMerge, IsTerm}
use Rattle.lq_prover_congruence.specs.Classes.Chains.{AllNamed}
use Rattle.lq_prover_congruence.specs.declared.classes.steps.Step.{Step}
use Rattle.lq_prover_congruence.specs.declared.classes.forest.Edge.{Edge}
use Rattle.lq_prover_congruence.specs.declared.classes.forest.Written.{Written}
use Rattle.lq_prover_congruence.specs.declared.classes.forest.Forest.{Forest}

abbrev pub edges_of : List (Option Edge) → ℕ → Option Edge
edges_of ts i = slice_index_or ts i None

-- so many edges lead from a term to one that has none
abbrev pub IsPath : (ℕ → Option Edge) → ℕ → ℕ → ℕ → Type 0
IsPath f zero i r = (i ≡ r) × (f i ≡ None)
IsPath f (suc k) i r = (e : Edge) × (f i ≡ Some e) × IsPath f k e.to r

-- edges lead from a term to one that has none
abbrev pub IsRoot : (ℕ → Option Edge) → ℕ → ℕ → Type 0
IsRoot f i r = (k : ℕ) × IsPath f k i r

abbrev pub AreRooted : (ℕ → Option Edge) → Type 0
AreRooted f = (i : ℕ) → (r : ℕ) × IsRoot f i r

-- two terms of one tree
abbrev pub AreJoined : (ℕ → Option Edge) → ℕ → ℕ → Type 0
AreJoined f i j = (r : ℕ) × IsRoot f i r × IsRoot f j r

-- two terms of two trees
abbrev pub AreApart : (ℕ → Option Edge) → ℕ → ℕ → Type 0
AreApart f i j = (r s : ℕ) × IsRoot f i r × IsRoot f j s × (r ≢ s)

-- the edges are merges that stand, and join all that they make the same where only names are merged
pub record IsForest (steps : List Step) (f : ℕ → Option Edge) : Type 0 where
  pub rooted : AreRooted f
  pub edges : (i : ℕ) (e : Edge) → f i ≡ Some e → IsMerge steps i e.to e.reason ⊎ IsMerge steps e.to i e.reason
  pub met : AllNamed steps → (a b r : ℕ) → IsMerge steps a b r → AreJoined f a b

-- the edges before the steps from one on, by what was written over
abbrev pub undone : ℕ → List Written → (ℕ → Option Edge) → ℕ → Option Edge
undone k [] f i = f i
undone k (w ∷ ws) f i = cond (nat_le k w.step) (cond (eqb i w.term) w.was (undone k ws f i)) (undone k ws f i)

abbrev pub AllLater : ℕ → List Written → Type 0
AllLater n [] = Unit {0}
AllLater n (w ∷ ws) = (n ≤ w.step) × AllLater n ws

-- what was written over, in order, by the first n steps, at terms below m
abbrev pub IsLog : ℕ → ℕ → List Written → Type 0
IsLog n m [] = Unit {0}
IsLog n m (w ∷ ws) = (w.step < n) × (w.term < m) × AllLater w.step ws × IsLog n m ws

-- after the first steps all was as it was
abbrev pub Follows : ℕ → Forest → Forest → Type 0
Follows n s t = (k i : ℕ) → k ≤ n → undone k t.log.items (edges_of t.toward.items) i ≡ undone k s.log.items (edges_of s.toward.items) i

pub record Stays (s t : Forest) : Type 0 where
  pub edges : (i : ℕ) → edges_of t.toward.items i ≡ edges_of s.toward.items i
  pub log : t.log.items ≡ s.log.items
  pub room : length s.toward.items ≤ length t.toward.items

pub record Writes (s t : Forest) (step term : ℕ) (edge : Edge) : Type 0 where
  pub here : edges_of t.toward.items term ≡ Some edge
  pub others : (i : ℕ) → i ≢ term → edges_of t.toward.items i ≡ edges_of s.toward.items i
  pub log : t.log.items ≡ s.log.items ++ record { step = step; term = term; was = edges_of s.toward.items term } ∷ []
  pub room : length s.toward.items ≤ length t.toward.items
  pub within : term < length t.toward.items

-- one of two terms and the other
abbrev pub AreEnds : ℕ → ℕ → ℕ → ℕ → Type 0
AreEnds from to i j = ((i ≡ from) × (j ≡ to)) ⊎ ((i ≡ to) × (j ≡ from))

-- an edge that was there or the new one, either way round
abbrev pub IsOfLink : (ℕ → Option Edge) → ℕ → ℕ → ℕ → ℕ → Edge → Type 0
IsOfLink f from to reason i e = (f i ≡ Some e) ⊎ ((f e.to ≡ Some (record { to = i; reason = e.reason })) ⊎ (AreEnds from to i e.to × (e.reason ≡ reason)))

-- two trees became one
pub record Links (s t : Forest) (from to reason : ℕ) : Type 0 where
  pub rooted : AreRooted (edges_of t.toward.items)
  pub edges : (i : ℕ) (e : Edge) → edges_of t.toward.items i ≡ Some e → IsOfLink (edges_of s.toward.items) from to reason i e
  pub joined : (i j : ℕ) → AreJoined (edges_of s.toward.items) i j → AreJoined (edges_of t.toward.items) i j
  pub linked : AreJoined (edges_of t.toward.items) from to

-- what is kept beside the classes
pub record IsKept (steps : List Step) (s : Forest) : Type 0 where
  pub stands : (k : ℕ) → k ≤ length steps → IsForest (take k steps) (undone k s.log.items (edges_of s.toward.items))
  pub log : IsLog (length steps) (length s.toward.items) s.log.items
  pub once : (i j : ℕ) (t : Term) → IsTerm steps i t → IsTerm steps j t → i ≡ j

-- a step more, of which the edges tell
pub record Notes (steps : List Step) (step : Step) (s t : Forest) : Type 0 where
  pub past : Follows (length steps) s t
  pub log : IsLog (suc (length steps)) (length t.toward.items) t.log.items
  pub forest : IsForest (steps ++ step ∷ []) (edges_of t.toward.items)
