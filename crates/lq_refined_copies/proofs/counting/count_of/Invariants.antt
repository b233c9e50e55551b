use Rattle.std.proofs.Common.{◌≡◌, take}
use Rattle.lq_refined_instances.specs.Counting.{count_of}
use Rattle.lq_refined_instances.specs.Instances.{told}
use Rattle.lq_text_qualifiers.specs.Sorting.Views.{qualifier_view}
use Rattle.lq_refined_copies.specs.Runs.{runs_view}
use Rattle.lq_refined_copies.specs.Views.{patterns_of, table_of}
use Rattle.lq_refined_copies.proofs.counting.count_of.Given as goal

abbrev pub invariant-loop-run : goal.invariant-loop-run
invariant-loop-run l = l.total ≡ told (count_of (qualifier_view l.qualifier) (runs_view (table_of l.shared) (patterns_of l.shared) (take l.run-index l.run-items)))
