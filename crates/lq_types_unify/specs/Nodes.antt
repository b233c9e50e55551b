-- What the nodes of an arena are.
use Rattle.std.specs.Prelude.{◌≡◌, ◌≢◌, ℕ, ◌+◌, ◌<◌, ◌≤◌, ◌^◌, List, Option, Some, None, take, drop, map, length, All, slice_index_or}
use Rattle.lq_types_unify.specs.declared.arena.Head.{Head}
use Rattle.lq_types_unify.specs.declared.arena.Node.{Node}
use Rattle.lq_types_unify.specs.declared.arena.Node.TheVariants.{Open, Made}
use Rattle.lq_types_unify.specs.declared.arena.Arena.{Arena}

-- a head with the nodes that are its parts
pub record Form : Type 0 where
  pub head : Head
  pub parts : List ℕ

-- the form with other nodes for its parts
abbrev pub renamed : (ℕ → ℕ) → Form → Form
renamed to f = record { head = f.head; parts = map to f.parts }

abbrev pub form_of : List ℕ → Node → Option Form
form_of parts Open = None
form_of parts (Made h first count) = Some (record { head = h; parts = take count (drop first parts) })

abbrev pub node_at : List Node → ℕ → Node
node_at nodes i = slice_index_or nodes i Open

-- the form of a node; none where it is open
abbrev pub form_at : Arena → ℕ → Option Form
form_at a i = form_of a.parts.items (node_at a.nodes.items i)

abbrev pub FitsIn : List ℕ → Node → Type 0
FitsIn parts Open = Unit {0}
FitsIn parts (Made h first count) = first + count ≤ length parts

-- every part is a node
pub record IsArena (a : Arena) : Type 0 where
  pub fits : (i : ℕ) → FitsIn a.parts.items (node_at a.nodes.items i)
  pub inside : All (λ p. p < length a.nodes.items) a.parts.items
  pub small : length a.nodes.items < 2 ^ 32

-- one node more than before, with this number and form; the others have the forms that they had
pub record HasAdded (old new : Arena) (node : ℕ) (form : Option Form) : Type 0 where
  pub arena : IsArena new
  pub next : node ≡ length old.nodes.items
  pub count : length new.nodes.items ≡ node + 1
  pub formed : form_at new node ≡ form
  pub others : (i : ℕ) → i < node → form_at new i ≡ form_at old i

-- as many nodes as before, with the same forms
pub record HasKept (old new : Arena) : Type 0 where
  pub arena : IsArena new
  pub count : length new.nodes.items ≡ length old.nodes.items
  pub forms : (i : ℕ) → form_at new i ≡ form_at old i

-- one node has this form, and the others have those that they had
pub record HasFilled (old new : Arena) (node : ℕ) (form : Option Form) : Type 0 where
  pub arena : IsArena new
  pub count : length new.nodes.items ≡ length old.nodes.items
  pub formed : form_at new node ≡ form
  pub others : (i : ℕ) → i ≢ node → form_at new i ≡ form_at old i
