use Rattle.std.proofs.Common.{◌≡◌, length}
use Rattle.lq_logic_predicates.specs.ClosedImplication.{terms_in}
use Rattle.lq_logic_predicates.specs.NnfView.{nnf_items}
use Rattle.lq_logic_predicates.specs.PredView.{implication_of}
use Rattle.lq_logic_predicates.specs.TableView.{terms_of}
use Rattle.lq_cases_prover.specs.Prover.Speaking.{SpeakOf}
use Rattle.lq_cases_prover.proofs.prover.opening.opening.Given as goal

abbrev pub invariant-loop-pred : goal.invariant-loop-pred
invariant-loop-pred l = record {
  same : terms_of l.table ≡ terms_in (implication_of l.fn.implication);
  count : length (nnf_items l.readings) ≡ l.pred-index;
  speak : SpeakOf (implication_of l.fn.implication) (nnf_items l.readings);
}
