-- The state of a walk through the classes.
use Rattle.std.specs.Prelude.{◌≡◌, ◌≢◌, ◌⊎◌, ℕ, ◌+◌, ◌<◌, ◌≤◌, List, [], ◌∷◌, Option, All, AllPairs, length, slice_index_or}
use Rattle.lq_types_unify.specs.declared.order.Mark.{Mark}
use Rattle.lq_types_unify.specs.declared.order.Mark.TheVariants.{Fresh, Active, Done}
use Rattle.lq_types_unify.specs.declared.order.Visit.{Visit}
use Rattle.lq_types_unify.specs.Simple.{Simple, size}
use Rattle.lq_types_unify.specs.Nodes.{Form}
use Rattle.lq_types_unify.specs.Solution.{Fits}
use Rattle.lq_types_unify.specs.Classes.{up, root, IsDown, AreShared}
use Rattle.lq_types_unify.specs.Value.{inner}

-- classes in which each parent is a root
pub record IsTable (forms : ℕ → Option Form) (n : ℕ) (parents shapes : List ℕ) : Type 0 where
  pub parents_length : length parents ≡ n
  pub shapes_length : length shapes ≡ n
  pub down : IsDown parents
  pub flat : (i : ℕ) → up parents i ≡ root parents i
  pub inside : (i : ℕ) → i < n → up shapes i < n
  pub own : (i : ℕ) → up parents i ≡ i → root parents (up shapes i) ≡ i

abbrev pub mark_at : List Mark → ℕ → Mark
mark_at marks i = slice_index_or marks i Fresh

-- the first so many parts of a row are done
abbrev pub AreDone : List ℕ → List Mark → List ℕ → ℕ → Type 0
AreDone parents marks row next = (k : ℕ) → k < next → k < length row → mark_at marks (root parents (slice_index_or row k 0)) ≡ Done

pub record IsNextVisit (forms : ℕ → Option Form) (n : ℕ) (parents shapes : List ℕ) (marks : List Mark) (visit found : Visit) : Type 0 where
  pub inside : found.class < n
  pub is_root : up parents found.class ≡ found.class
  pub at : found.next < length (inner forms shapes visit.class)
  pub part : found.class ≡ root parents (slice_index_or (inner forms shapes visit.class) found.next 0)
  pub undone : mark_at marks found.class ≢ Done
  pub before : AreDone parents marks (inner forms shapes visit.class) found.next

pub record IsVisit (forms : ℕ → Option Form) (n : ℕ) (parents shapes : List ℕ) (marks : List Mark) (visit : Visit) : Type 0 where
  pub inside : visit.class < n
  pub is_root : up parents visit.class ≡ visit.class
  pub before : AreDone parents marks (inner forms shapes visit.class) visit.next

-- the second has a smaller type than the first
abbrev pub IsAbove : (ℕ → Option Form) → List ℕ → Visit → Visit → Type 0
IsAbove forms parents u v = (types : ℕ → Simple) → Fits forms types → AreShared parents types → size (types v.class) < size (types u.class)

abbrev pub IsOn : ℕ → List Visit → Type 0
IsOn r [] = ⊥
IsOn r (v ∷ vs) = (v.class ≡ r) ⊎ IsOn r vs

pub record IsWalk (forms : ℕ → Option Form) (n : ℕ) (parents shapes : List ℕ) (marks : List Mark) (stack : List Visit) : Type 0 where
  pub visits : All (IsVisit forms n parents shapes marks) stack
  pub above : AllPairs (IsAbove forms parents) stack
  pub on : (r : ℕ) → mark_at marks r ≡ Active → IsOn r stack

-- the classes that are done, with a number above those of their parts
pub record IsMarked (forms : ℕ → Option Form) (n : ℕ) (parents shapes : List ℕ) (marks : List Mark) (count : ℕ) : Type 0 where
  pub marks_length : length marks ≡ n
  pub rank : ℕ → ℕ
  pub below : (r : ℕ) → rank r ≤ count
  pub parts : (r : ℕ) → mark_at marks r ≡ Done → AreDone parents marks (inner forms shapes r) (length (inner forms shapes r))
  pub falls : (r : ℕ) → mark_at marks r ≡ Done → All (λ p. rank (root parents p) < rank r) (inner forms shapes r)

-- none is active
abbrev pub AreCalm : List Mark → Type 0
AreCalm marks = (r : ℕ) → mark_at marks r ≢ Active

-- how many are fresh
abbrev pub one_fresh : Mark → ℕ
one_fresh Fresh = 1
one_fresh Active = 0
one_fresh Done = 0

abbrev pub fresh : List Mark → ℕ
fresh [] = 0
fresh (m ∷ ms) = one_fresh m + fresh ms

-- what is no longer fresh stays so
abbrev pub StaysSeen : List Mark → List Mark → Type 0
StaysSeen old new = (r : ℕ) → mark_at old r ≢ Fresh → mark_at new r ≢ Fresh
