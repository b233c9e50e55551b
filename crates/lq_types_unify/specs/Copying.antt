-- A copy of the type of a node, for a use of it.
use Rattle.std.specs.Prelude.{◌≡◌, ℕ, ◌+◌, ◌<◌, ◌≤◌, ◌⊎◌, Bool, if◌then◌else◌, nat_lt, List, Option, None, All, length, slice_index_or}
use Rattle.std.specs.Option.{option_map}
use Rattle.lq_types_unify.specs.declared.arena.Arena.{Arena}
use Rattle.lq_types_unify.specs.Nodes.{Form, renamed, form_at, IsArena}
use Rattle.lq_types_unify.specs.Classes.{up, root}
use Rattle.lq_types_unify.specs.Value.{parts_of}
use Rattle.lq_types_unify.specs.Knowing.{IsLonger}
use Rattle.lq_types_unify.specs.Reaching.{IsFixed}

-- what stands for a class in a copy: the node that the table has, if it is behind the first n
abbrev pub seat : ℕ → List ℕ → ℕ → ℕ
seat n copies r = if nat_lt (up copies r) n then r else up copies r

-- a class stands in the copy: a weak open one for itself, any other by a node of its own behind the first
abbrev pub Stands : (ℕ → Option Form) → ℕ → ℕ → List ℕ → List Bool → (ℕ → ℕ) → (ℕ → ℕ) → ℕ → Type 0
Stands old count total shapes weak origin goes r =
    (IsFixed old shapes weak r × (goes r ≡ r)) ⊎ ((IsFixed old shapes weak r → ⊥) × (count ≤ goes r) × (goes r < total) × (origin (goes r) ≡ r))

-- Behind the first nodes stand copies of classes, each with the form of its class over what stands for the parts. One of them is used
-- for the definition, or its class itself.
pub record IsCopy (old new : ℕ → Option Form) (count total : ℕ) (parents shapes : List ℕ) (weak : List Bool) (definition used : ℕ) : Type 0 where
  pub origin : ℕ → ℕ
  pub goes : ℕ → ℕ
  pub kept : (i : ℕ) → i < count → new i ≡ old i
  pub past : (i : ℕ) → total ≤ i → new i ≡ None
  pub copied : (q : ℕ) → count ≤ q → q < total → new q ≡ option_map (renamed (λ p. goes (root parents p))) (old (up shapes (origin q)))
  pub parts : (q : ℕ) → count ≤ q → q < total → All (λ p. Stands old count total shapes weak origin goes (root parents p)) (parts_of (old (up shapes (origin q))))
  pub begins : Stands old count total shapes weak origin goes (root parents definition)
  pub used_is : used ≡ goes (root parents definition)

-- so many open nodes behind those that there were
pub record AreOpened (old new : Arena) (count : ℕ) : Type 0 where
  pub arena : IsArena new
  pub long : length new.nodes.items ≡ length old.nodes.items + count
  pub kept : (i : ℕ) → i < length old.nodes.items → form_at new i ≡ form_at old i
  pub rest : (i : ℕ) → length old.nodes.items ≤ i → form_at new i ≡ None

-- as many nodes or more, of which the first so many have the forms that they had
pub record AreKept (old new : Arena) (base : ℕ) : Type 0 where
  pub arena : IsArena new
  pub more : length old.nodes.items ≤ length new.nodes.items
  pub kept : (i : ℕ) → i < base → form_at new i ≡ form_at old i

-- the form of a node, over what stands for its parts
abbrev pub seated : Arena → ℕ → List ℕ → List ℕ → ℕ → Option Form
seated a base parents copies i = option_map (renamed (λ p. seat base copies (root parents p))) (form_at a i)

-- the nodes behind the first have the forms of these classes
pub record AreFilled (old new : Arena) (base : ℕ) (parents shapes copies classes : List ℕ) : Type 0 where
  pub arena : IsArena new
  pub long : length new.nodes.items ≡ length old.nodes.items
  pub kept : (i : ℕ) → i < base → form_at new i ≡ form_at old i
  pub filled : (k : ℕ) → k < length classes → form_at new (base + k) ≡ seated old base parents copies (up shapes (slice_index_or classes k 0))

-- the parts of a node, and what stands for them, are nodes
abbrev pub ArePlaced : Arena → ℕ → List ℕ → List ℕ → ℕ → Type 0
ArePlaced a base parents copies i = All (λ p. (p < base) × (seat base copies (root parents p) < length a.nodes.items)) (parts_of (form_at a i))

-- the arena has the copy of a node's type, and each class the number of a node
pub record IsPlaced (old new : Arena) (parents shapes : List ℕ) (weak : List Bool) (copies : List ℕ) (node used : ℕ) : Type 0 where
  pub arena : IsArena new
  pub longer : IsLonger old new
  pub copy : IsCopy (form_at old) (form_at new) (length old.nodes.items) (length new.nodes.items) parents shapes weak node used
  pub inside : used < length new.nodes.items
  pub low : (i : ℕ) → i < length old.nodes.items → up copies i < length new.nodes.items
