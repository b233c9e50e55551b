use Rattle.std.proofs.Common.{◌≡◌, ◌<◌, ℕ}
use Rattle.lq_types_unify.specs.Classes.{up, root, IsSame}
use Rattle.lq_types_unify.proofs.merge.flatten.Given as goal

abbrev pub invariant-loop-at : goal.invariant-loop-at
invariant-loop-at l = record {
  classes : IsSame l.fn.parents l.parents;
  flat : (i : ℕ) → i < l.at → up l.parents i ≡ root l.fn.parents i;
}
