-- The equations of a whole scoped program with their most general solution.
use Rattle.std.specs.Prelude.{ℕ}
use Rattle.lq_text_tree.specs.MlType.{MlType}
use Rattle.lq_text_walk.specs.Walk.Visits.{visits_of_items}
use Rattle.lq_types_rules.specs.declared.equations.system.System.{System}
use Rattle.lq_types_rules.specs.Equations.Solved.{IsPrincipal}
use Rattle.lq_text_walk.specs.Scoped.Scoping.{Scoping}
use Rattle.lq_text_walk.specs.Scoped.Signature.{signature_in}
use Rattle.lq_types_rules.specs.Visits.Laws.{slot_count}
use Rattle.lq_types_rules.specs.Typings.Principal.{node_count}
use Rattle.lq_types_infer.specs.Inference.Gathering.{IsComplete, IsSound}

-- The types of all nodes are the most general solution of equations that say the program's rules.
pub record IsSolved (s : Scoping) (equations : System) (types : ℕ → MlType) : Type 0 where
  pub principal : IsPrincipal equations types
  pub complete : IsComplete (signature_in s.datatypes) (node_count s) (slot_count s) (visits_of_items s.items) equations
  pub sound : IsSound (signature_in s.datatypes) (node_count s) (visits_of_items s.items) equations
