use Rattle.std.proofs.Common.{ℕ, ◌+◌, ◌-◌, ◌≤◌, length, take}
use Rattle.lq_types_unify.specs.Simple.{Simple}
use Rattle.lq_types_unify.specs.Nodes.{form_at}
use Rattle.lq_types_unify.specs.Solution.{Fits}
use Rattle.lq_types_unify.specs.Classes.{fixed, IsState, Grows, AreShared, AreFollowed}
use Rattle.lq_types_unify.proofs.classes.settle.Given as goal

abbrev pub invariant-pairs : goal.invariant-pairs
invariant-pairs l = record {
  state : IsState (form_at l.arena) (length l.arena.nodes.items) l.parents l.shapes l.found.items;
  grows : Grows l.fn.parents l.parents l.fn.found.items l.found.items;
  within : l.at ≤ length l.found.items;
  followed : AreFollowed (form_at l.arena) l.parents (take l.at l.found.items);
  shared : (types : ℕ → Simple) → Fits (form_at l.arena) types → AreShared l.fn.parents types → AreShared l.parents types;
}

abbrev pub decreases-pairs : goal.decreases-pairs
decreases-pairs l = (fixed l.parents + length l.found.items) - l.at
