-- The types that a solution gives, and the order of its classes.
use Rattle.std.specs.Prelude.{◌+◌, ℕ, length}
use Rattle.lq_types_unify.specs.declared.arena.Arena.{Arena}
use Rattle.lq_types_unify.specs.declared.solver.Solution.{Solution}
use Rattle.lq_types_unify.specs.Simple.{Simple}
use Rattle.lq_types_unify.specs.Nodes.{form_at}
use Rattle.lq_types_unify.specs.Value.{value}
use Rattle.lq_types_unify.specs.Order.{AreOrdered}

-- the type of each node
abbrev pub types_of : Arena → Solution → ℕ → Simple
types_of a s = value (length s.order.items + 1) (form_at a) s.parents.items s.shapes.items

-- the tables are of the arena's nodes, each node's parent is its root, and the order has all roots, parts first
abbrev pub HasOrder : Arena → Solution → Type 0
HasOrder a s = AreOrdered (form_at a) (length a.nodes.items) s.parents.items s.shapes.items s.order.items
