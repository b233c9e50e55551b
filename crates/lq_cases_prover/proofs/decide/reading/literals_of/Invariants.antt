use Rattle.std.proofs.Common.{◌≡◌, length}
use Rattle.lq_prover_decide.specs.Case.{facts_of}
use Rattle.lq_prover_decide.specs.Deciding.{AllFactsBelow}
use Rattle.lq_logic_predicates.specs.TableView.{terms_of}
use Rattle.lq_cases_prover.proofs.decide.reading.literals_of.Given as goal

abbrev pub invariant-loop-pred : goal.invariant-loop-pred
invariant-loop-pred l = record {
  same : terms_of l.table ≡ terms_of l.fn.table;
  below : AllFactsBelow (length (terms_of l.fn.table)) (facts_of l.facts);
}
