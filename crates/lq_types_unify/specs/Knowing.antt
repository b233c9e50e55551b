-- What a solver knows.
use Rattle.std.specs.Prelude.{◌≡◌, ℕ, ◌<◌, ◌≤◌, List, length}
use Rattle.lq_types_unify.specs.declared.arena.Arena.{Arena}
use Rattle.lq_types_unify.specs.declared.arena.Equation.{Equation}
use Rattle.lq_types_unify.specs.declared.solver.Solver.{Solver}
use Rattle.lq_types_unify.specs.Nodes.{form_at}
use Rattle.lq_types_unify.specs.Classes.{up, root, AreBetween, IsKnown}
use Rattle.lq_types_unify.specs.Value.{IsRanked}

-- as many nodes or more, with the same forms of those that there were
pub record IsLonger (old new : Arena) : Type 0 where
  pub more : length old.nodes.items ≤ length new.nodes.items
  pub same : (i : ℕ) → i < length old.nodes.items → form_at new i ≡ form_at old i

-- the solver has the classes of the arena's nodes that the equations make
pub record Knows (a : Arena) (equations : List Equation) (s : Solver) : Type 0 where
  pub known : IsKnown (form_at a) (length a.nodes.items) s.parents.items s.shapes.items s.found.items equations
  pub copies_length : length s.copies.items ≡ length a.nodes.items
  pub copies_low : (i : ℕ) → i < length a.nodes.items → up s.copies.items i < length a.nodes.items

-- the solver has classes from those that the first equations make to those that the second make
pub record IsBetween (a : Arena) (before after : List Equation) (s : Solver) : Type 0 where
  pub classes : AreBetween (form_at a) (length a.nodes.items) s.parents.items s.shapes.items s.found.items before after
  pub copies_length : length s.copies.items ≡ length a.nodes.items
  pub copies_low : (i : ℕ) → i < length a.nodes.items → up s.copies.items i < length a.nodes.items

-- the second solver has the classes of the first, each with its node; a node that the first hasn't stands alone there
pub record KeepsClasses (old new : Solver) : Type 0 where
  pub roots : (i : ℕ) → root new.parents.items i ≡ root old.parents.items i
  pub shapes : (i : ℕ) → up new.shapes.items i ≡ up old.shapes.items i
  pub found : new.found.items ≡ old.found.items

-- no class of the solver is inside itself
pub record IsOrdered (a : Arena) (s : Solver) (bound : ℕ) : Type 0 where
  pub ranked : IsRanked (form_at a) s.parents.items s.shapes.items bound

-- the tables are possibly of more nodes, of which each stands alone
pub record IsWidened (old new : Solver) : Type 0 where
  pub parents : (i : ℕ) → up new.parents.items i ≡ up old.parents.items i
  pub shapes : (i : ℕ) → up new.shapes.items i ≡ up old.shapes.items i
  pub found : new.found.items ≡ old.found.items

-- the tables are of so many nodes, and each new node stands alone
pub record IsStretched (old new : Solver) (n : ℕ) : Type 0 where
  pub parents_length : length old.parents.items ≤ n → length new.parents.items ≡ n
  pub parents_same : (i : ℕ) → up new.parents.items i ≡ up old.parents.items i
  pub shapes_length : length old.shapes.items ≤ n → length new.shapes.items ≡ n
  pub shapes_same : (i : ℕ) → up new.shapes.items i ≡ up old.shapes.items i
  pub copies_length : length old.copies.items ≤ n → length new.copies.items ≡ n
  pub copies_same : (i : ℕ) → up new.copies.items i ≡ up old.copies.items i
  pub found_same : new.found.items ≡ old.found.items
