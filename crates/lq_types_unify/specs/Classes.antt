-- Classes of nodes that have one type: each node's parent, and for each root a node of its class that has a form if one has.
use Rattle.std.specs.Prelude.{◌≡◌, ◌==◌, ℕ, zero, suc, ◌+◌, ◌<◌, ◌≤◌, List, [], ◌∷◌, ◌++◌, Option, IsSome, All, length, slice_index_or, if◌then◌else◌}
use Rattle.std.specs.Option.{option_map}
use Rattle.lq_types_unify.specs.declared.arena.Equation.{Equation}
use Rattle.lq_types_unify.specs.Simple.{Simple}
use Rattle.lq_types_unify.specs.Nodes.{Form, renamed}
use Rattle.lq_types_unify.specs.Solution.{IsSolution}

-- the parent of a node; a root is its own
abbrev pub up : List ℕ → ℕ → ℕ
up parents i = slice_index_or parents i i

abbrev pub climbed : ℕ → List ℕ → ℕ → ℕ
climbed zero parents i = i
climbed (suc n) parents i = climbed n parents (up parents i)

-- the root of a node's class
abbrev pub root : List ℕ → ℕ → ℕ
root parents i = climbed (length parents) parents i

abbrev pub IsDown : List ℕ → Type 0
IsDown parents = (i : ℕ) → up parents i ≤ i

-- how many are their own parents, of those from k on
abbrev pub fixed_from : ℕ → List ℕ → ℕ
fixed_from k [] = 0
fixed_from k (p ∷ ps) = (if p == k then 1 else 0) + fixed_from (suc k) ps

abbrev pub fixed : List ℕ → ℕ
fixed parents = fixed_from 0 parents

-- a node's form with the roots of its parts
abbrev pub rooted : (ℕ → Option Form) → List ℕ → ℕ → Option Form
rooted forms parents i = option_map (renamed (root parents)) (forms i)

-- the types are the same in each class
abbrev pub AreShared : List ℕ → (ℕ → Simple) → Type 0
AreShared parents types = (i : ℕ) → types i ≡ types (up parents i)

-- the same classes with the same roots
pub record IsSame (old new : List ℕ) : Type 0 where
  pub long : length new ≡ length old
  pub down : IsDown new
  pub roots : (i : ℕ) → root new i ≡ root old i
  pub selves : (i : ℕ) → (up new i ≡ i → up old i ≡ i) × (up old i ≡ i → up new i ≡ i)
  pub count : fixed new ≡ fixed old

-- two nodes with forms that were found to have one type
pub record IsFound (forms : ℕ → Option Form) (n : ℕ) (parents : List ℕ) (e : Equation) : Type 0 where
  pub left_in : e.left < n
  pub right_in : e.right < n
  pub left_made : IsSome (forms e.left)
  pub right_made : IsSome (forms e.right)
  pub same : root parents e.left ≡ root parents e.right

-- `found` has enough pairs to lead from each node with a form to the one that its root keeps
pub record IsState (forms : ℕ → Option Form) (n : ℕ) (parents shapes : List ℕ) (found : List Equation) : Type 0 where
  pub parents_length : length parents ≡ n
  pub shapes_length : length shapes ≡ n
  pub down : IsDown parents
  pub inside : (i : ℕ) → i < n → up shapes i < n
  pub own : (i : ℕ) → up parents i ≡ i → root parents (up shapes i) ≡ i
  pub formed : (i : ℕ) → IsSome (forms i) → IsSome (forms (up shapes (root parents i)))
  pub keyed : (key : ℕ → Option Form) → All (λ e. key e.left ≡ key e.right) found → (i : ℕ) → IsSome (forms i) → key i ≡ key (up shapes (root parents i))
  pub pairs : All (IsFound forms n parents) found

-- the classes of the second are unions of classes of the first
pub record Grows (old new : List ℕ) (before after : List Equation) : Type 0 where
  pub coarser : (i : ℕ) → root new (root old i) ≡ root new i
  pub added : List Equation
  pub after_is : after ≡ before ++ added
  pub room : fixed new + length after ≤ fixed old + length before

-- the forms of each pair are the same, but for their parts' places in the classes
abbrev pub AreFollowed : (ℕ → Option Form) → List ℕ → List Equation → Type 0
AreFollowed forms parents found = All (λ e. rooted forms parents e.left ≡ rooted forms parents e.right) found

-- classes from those that the first equations made to those that the second make: what was found of the first still stands, and nothing
-- is there that doesn't follow from the second
pub record AreBetween (forms : ℕ → Option Form) (n : ℕ) (parents shapes : List ℕ) (found before after : List Equation) : Type 0 where
  pub state : IsState forms n parents shapes found
  pub met : All (λ e. root parents e.left ≡ root parents e.right) before
  pub follows : (types : ℕ → Simple) → IsSolution forms after types → AreShared parents types

-- the classes that the equations make: all that follows from them, and nothing else
pub record IsKnown (forms : ℕ → Option Form) (n : ℕ) (parents shapes : List ℕ) (found equations : List Equation) : Type 0 where
  pub state : IsState forms n parents shapes found
  pub followed : AreFollowed forms parents found
  pub met : All (λ e. root parents e.left ≡ root parents e.right) equations
  pub follows : (types : ℕ → Simple) → IsSolution forms equations types → AreShared parents types
