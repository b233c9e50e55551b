use Rattle.std.proofs.Common.{◌≡◌, ℕ, length, take, All}
use Rattle.lq_types_unify.specs.Simple.{Simple}
use Rattle.lq_types_unify.specs.Nodes.{form_at}
use Rattle.lq_types_unify.specs.Solution.{Meets}
use Rattle.lq_types_unify.specs.Classes.{root, IsState, Grows, AreShared}
use Rattle.lq_types_unify.proofs.merge.merge.Given as goal

abbrev pub invariant-loop-equation : goal.invariant-loop-equation
invariant-loop-equation l = record {
  state : IsState (form_at l.arena) (length l.arena.nodes.items) l.parents l.shapes l.found.items;
  grows : Grows l.fn.parents l.parents l.fn.found.items l.found.items;
  met : All (λ e. root l.parents e.left ≡ root l.parents e.right) (take l.equation-index l.equations);
  shared : (types : ℕ → Simple) → AreShared l.fn.parents types → Meets types l.equations → AreShared l.parents types;
}
