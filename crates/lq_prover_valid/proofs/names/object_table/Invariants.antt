use Rattle.std.proofs.Common.{◌≡◌, ◌<◌, ℕ, Some, map, slice_get, true}
use Rattle.lq_prover_case.specs.Equations.Naming.{HasAllArguments, objects_of}
use Rattle.lq_logic_predicates.specs.Sum.{Sum}
use Rattle.lq_logic_predicates.specs.Table.{has_term}
use Rattle.lq_logic_predicates.specs.TableView.{terms_of}
use Rattle.lq_logic_predicates.specs.TermView.{sum_of}
use Rattle.lq_prover_valid.proofs.names.object_table.Given as goal

abbrev pub invariant-loop-at : goal.invariant-loop-at
invariant-loop-at l = record {
  arguments : HasAllArguments (objects_of l.objects) (terms_of l.table);
  named : (k : ℕ) (a : Sum) → k < l.at → slice_get (map sum_of l.named.keys) k ≡ Some a → has_term (objects_of l.objects) a ≡ true;
}
