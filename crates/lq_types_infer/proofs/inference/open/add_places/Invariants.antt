use Rattle.std.proofs.Common.{ℕ, ◌<◌, ◌≤◌}
use Rattle.lq_types_unify.specs.Opens.{IsIn}
use Rattle.lq_types_infer.proofs.inference.open.add_places.Given as goal

abbrev pub invariant-loop-at : goal.invariant-loop-at
invariant-loop-at l = record {
  kept : (j : ℕ) → IsIn l.fn.places.items j → IsIn l.places.items j;
  more : (j : ℕ) → l.from ≤ j → j < l.at → IsIn l.places.items j;
}
