-- The classes that nodes reach through the parts of forms, as far as they are no weak open ones.
use Rattle.std.specs.Prelude.{◌≡◌, ℕ, ◌+◌, ◌-◌, ◌<◌, ◌≤◌, ◌⊎◌, Bool, true, false, if◌then◌else◌, nat_lt, List, [], ◌∷◌, ◌++◌, Option, None, All, length, slice_index_or}
use Rattle.lq_types_unify.specs.Nodes.{Form}
use Rattle.lq_types_unify.specs.Classes.{up, root}
use Rattle.lq_types_unify.specs.Value.{inner}

-- an open class that stays itself in a copy
abbrev pub IsFixed : (ℕ → Option Form) → List ℕ → List Bool → ℕ → Type 0
IsFixed forms shapes weak r = (slice_index_or weak r false ≡ true) × (forms (up shapes r) ≡ None)

-- The classes that were listed are roots. In the table of copies each has the number of its place behind the nodes, and no other class
-- has a number behind these.
pub record IsListed (forms : ℕ → Option Form) (n : ℕ) (parents shapes : List ℕ) (weak : List Bool) (copies classes : List ℕ) : Type 0 where
  pub long : length copies ≡ n
  pub inside : (k : ℕ) → k < length classes → slice_index_or classes k 0 < n
  pub are_roots : (k : ℕ) → k < length classes → up parents (slice_index_or classes k 0) ≡ slice_index_or classes k 0
  pub free : (k : ℕ) → k < length classes → IsFixed forms shapes weak (slice_index_or classes k 0) → ⊥
  pub forth : (k : ℕ) → k < length classes → up copies (slice_index_or classes k 0) ≡ n + k
  pub back : (r : ℕ) → r < n → n ≤ up copies r → (up copies r < n + length classes) × (slice_index_or classes (up copies r - n) 0 ≡ r)

-- a class that is listed, or stays itself
abbrev pub IsMet : (ℕ → Option Form) → ℕ → List ℕ → List Bool → List ℕ → ℕ → Type 0
IsMet forms n shapes weak copies r = IsFixed forms shapes weak r ⊎ ((r < n) × (n ≤ up copies r))

-- how many have a number below n
abbrev pub unlisted : ℕ → List ℕ → ℕ
unlisted n [] = 0
unlisted n (q ∷ qs) = (if nat_lt q n then 1 else 0) + unlisted n qs

-- more classes are listed, of which each is among those that are met
pub record Lists (forms : ℕ → Option Form) (n : ℕ) (shapes : List ℕ) (weak : List Bool) (copies more : List ℕ) (classes longer : List ℕ) : Type 0 where
  pub added : List ℕ
  pub longer_is : longer ≡ classes ++ added
  pub still : (r : ℕ) → IsMet forms n shapes weak copies r → IsMet forms n shapes weak more r
  pub room : unlisted n more + length longer ≡ unlisted n copies + length classes

-- what holds of those that were listed before and of these nodes' classes holds of all that are listed
abbrev pub AreAmong : List ℕ → List ℕ → List ℕ → List ℕ → Type 0
AreAmong parents classes longer nodes = (seen : ℕ → Bool) → All (λ r. seen r ≡ true) classes → All (λ i. seen (root parents i) ≡ true) nodes → All (λ r. seen r ≡ true) longer

-- a fact of classes that holds of the parts of each class of which it holds
abbrev pub IsInherited : (ℕ → Option Form) → List ℕ → List ℕ → (ℕ → Bool) → Type 0
IsInherited forms parents shapes seen = (r : ℕ) → seen r ≡ true → All (λ p. seen (root parents p) ≡ true) (inner forms shapes r)

-- The nodes' classes are met, and the parts' classes of each that is listed. What holds of the nodes' classes and goes over to parts
-- holds of all that are listed.
pub record IsReached (forms : ℕ → Option Form) (n : ℕ) (parents shapes : List ℕ) (weak : List Bool) (copies classes nodes : List ℕ) : Type 0 where
  pub listed : IsListed forms n parents shapes weak copies classes
  pub begins : All (λ i. IsMet forms n shapes weak copies (root parents i)) nodes
  pub goes_on : All (λ r. All (λ p. IsMet forms n shapes weak copies (root parents p)) (inner forms shapes r)) classes
  pub only : (seen : ℕ → Bool) → IsInherited forms parents shapes seen → All (λ i. seen (root parents i) ≡ true) nodes → All (λ r. seen r ≡ true) classes
