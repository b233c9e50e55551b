use Rattle.std.proofs.Common.{◌≡◌, ◌<◌, length}
use Rattle.lq_types_unify.specs.Classes.{root, IsSame}
use Rattle.lq_types_unify.proofs.classes.find.Given as goal

abbrev pub invariant-climb : goal.invariant-climb
invariant-climb l = record {
  inside : l.at < length l.parents;
  way : root l.fn.parents l.at ≡ root l.fn.parents l.node;
  classes : IsSame l.fn.parents l.parents;
}

abbrev pub decreases-climb : goal.decreases-climb
decreases-climb l = l.at
