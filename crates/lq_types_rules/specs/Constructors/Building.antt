-- Nodes that stand for types.
use Rattle.std.specs.Prelude.{◌≡◌, ℕ, ◌+◌, ◌-◌, ◌<◌, ◌≤◌, List, [], ◌∷◌, ◌++◌, All, map, take, drop, length}
use Rattle.lq_text_tree.specs.MlType.{MlType, MlTypes}
use Rattle.lq_text_tree.specs.SimpleTypeView.{types_of}
use Rattle.lq_text_tree.specs.Types.{type_at, put_all, count_types}
use Rattle.lq_types_unify.specs.declared.arena.Arena.{Arena}
use Rattle.lq_types_unify.specs.Nodes.{form_at}
use Rattle.lq_types_unify.specs.declared.arena.Head.{Head}
use Rattle.lq_types_rules.specs.Equations.Solutions as solutions
use Rattle.lq_types_rules.specs.Equations.Solutions.{each, Fits}
use Rattle.lq_types_rules.specs.Equations.Templates.{upto, IsStore}
use Rattle.lq_types_rules.specs.Constructors.Tasks.{parts_of, made}

-- Nodes of which each stands behind its parts; the first n may have any types.
pub record IsBase (a : Arena) (n : ℕ) : Type 0 where
  pub store : IsStore a
  pub room : n ≤ length a.nodes.items
  pub fills : (arguments : MlTypes) → count_types arguments ≡ n → (types : ℕ → MlType) × Fits (form_at a) types × (each types (upto 0 n) ≡ arguments)

-- the types of the parameters' nodes in place of the parameters
abbrev pub by_nodes : ℕ → (ℕ → MlType) → ℕ → MlType
by_nodes n t = type_at (each t (upto 0 n))

-- all are nodes
abbrev pub AreIn : Arena → List ℕ → Type 0
AreIn a ns = All (λ i. i < length a.nodes.items) ns

-- more nodes: types of all nodes are types of those that there were
pub record IsMore (old new : Arena) (n : ℕ) : Type 0 where
  pub base : IsBase new n
  pub longer : length old.nodes.items ≤ length new.nodes.items
  pub fits : (t : ℕ → MlType) → Fits (form_at new) t → Fits (form_at old) t

-- the last nodes of the stack give way to one that stands for the type of their types
pub record IsMade (old new : Arena) (n : ℕ) (stack later : List ℕ) (source : MlType) : Type 0 where
  pub more : IsMore old new n
  pub inside : AreIn new later
  pub long : length later + length (parts_of source) ≡ length stack + 1
  pub made : (t : ℕ → MlType) → Fits (form_at new) t → map t later ≡ made (by_nodes n t) source (map t stack)

-- the last nodes of the stack, so many, give way to one of this head over them
pub record IsOver (old new : Arena) (n : ℕ) (stack later : List ℕ) (head : Head) (count : ℕ) : Type 0 where
  pub more : IsMore old new n
  pub inside : AreIn new later
  pub long : length later + count ≡ length stack + 1
  pub over : (t : ℕ → MlType) → Fits (form_at new) t → map t later ≡ take (length stack - count) (map t stack) ++ solutions.made head (types_of (drop (length stack - count) (map t stack))) ∷ []

-- the nodes stand for the types of a row
pub record IsRow (old new : Arena) (n : ℕ) (nodes : List ℕ) (row : MlTypes) : Type 0 where
  pub more : IsMore old new n
  pub inside : AreIn new nodes
  pub row_is : (t : ℕ → MlType) → Fits (form_at new) t → each t nodes ≡ put_all (by_nodes n t) row
