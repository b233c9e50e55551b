-- What the classes are made of: labels, rings, and the table of signatures.
use Rattle.std.specs.Prelude.{◌≡◌, ℕ, ◌<◌, ◌⊎◌, ◌↔◌, cond, eqb, List, [], ◌∷◌, length, map, slice_index, Some}
use Rattle.lq_prover_congruence.specs.Ring.Ring.{IsTogether, times}
use Rattle.lq_prover_congruence.specs.Classes.Terms.{Term, find_in, term_in}

-- the terms with their numbers, the label and the next one in the ring of each, and the terms by signature
pub record Core : Type 0 where
  pub known : List (Term × ℕ)
  pub labels : List ℕ
  pub next : List ℕ
  pub filed : List (Term × ℕ)

abbrev pub empty : Core
empty = record { known = []; labels = []; next = []; filed = [] }

-- the head with the labels of the arguments
abbrev pub signature : List ℕ → Term → Term
signature labels t = (t.0, map (λ a. slice_index labels a) t.1)

-- all of one label with another
abbrev pub relabelled : List ℕ → ℕ → ℕ → List ℕ
relabelled labels kept moved = map (λ l. cond (eqb l moved) kept l) labels

abbrev pub AllBelow : ℕ → List ℕ → Type 0
AllBelow n [] = Unit {0}
AllBelow n (a ∷ xs) = (a < n) × AllBelow n xs

-- the arguments of a term have the labels that those of a signature have
abbrev pub SameLabels : List ℕ → ℕ → List ℕ → List ℕ → Type 0
SameLabels labels n [] [] = Unit {0}
SameLabels labels n [] (l ∷ ls) = ⊥
SameLabels labels n (a ∷ xs) [] = ⊥
SameLabels labels n (a ∷ xs) (l ∷ ls) = (l < n) × (slice_index labels a ≡ slice_index labels l) × SameLabels labels n xs ls

-- what is filed is a term that has, or had, this signature
pub record IsFiled (c : Core) (t : Term) (v : ℕ) : Type 0 where
  pub within : v < length c.known
  pub head : (term_in c.known v).0 ≡ t.0
  pub args : SameLabels c.labels (length c.known) (term_in c.known v).1 t.1

abbrev pub AllFiled : Core → List (Term × ℕ) → Type 0
AllFiled c [] = Unit {0}
AllFiled c (e ∷ es) = IsFiled c e.0 e.1 × AllFiled c es

-- the lists fit: each label is a term that has it, and a ring has the terms of one label
pub record IsShaped (c : Core) : Type 0 where
  pub labelled : length c.labels ≡ length c.known
  pub ringed : length c.next ≡ length c.known
  pub below : (i : ℕ) → i < length c.known → slice_index c.labels i < length c.known
  pub rests : (i : ℕ) → i < length c.known → slice_index c.labels (slice_index c.labels i) ≡ slice_index c.labels i
  pub rings : (i j : ℕ) → IsTogether c.next i j ↔ ((i < length c.known) × (j < length c.known) × (slice_index c.labels i ≡ slice_index c.labels j))
  pub args : (i : ℕ) → i < length c.known → AllBelow i (term_in c.known i).1
  pub filed : AllFiled c c.filed

-- a term with this signature is filed whose label is the same, or becomes it when the label l gets that of m
pub record IsFound (c : Core) (l m i : ℕ) : Type 0 where
  pub by : ℕ
  pub found : find_in c.filed (signature c.labels (term_in c.known i)) ≡ Some by
  pub within : by < length c.known
  pub label : (slice_index c.labels by ≡ slice_index c.labels i) ⊎ ((slice_index c.labels i ≡ l) × (slice_index c.labels by ≡ m))

-- all terms are found, but for those that wait
abbrev pub AllFound : Core → ℕ → ℕ → List ℕ → Type 0
AllFound c l m queue = (i : ℕ) → i < length c.known → (0 < times i queue) ⊎ IsFound c l m i
