use Rattle.std.proofs.Common.{◌≡◌, List, take}
use Rattle.lq_refined_instances.specs.Counting.{replaced_count}
use Rattle.lq_refined_instances.specs.Scopes.{scope_in, Scope}
use Rattle.lq_text_qualifiers.specs.Faults.Shapes.{Shape}
use Rattle.lq_refined_copies.specs.Counting.{AreColumns}
use Rattle.lq_refined_copies.proofs.counting.replaced_count.Given as goal

abbrev pub invariant-loop-index : goal.invariant-loop-index
invariant-loop-index l = (ss : List Shape) (all : List Scope) → AreColumns ss all l.columns → l.count ≡ replaced_count (take l.index ss) (scope_in all l.scope)
