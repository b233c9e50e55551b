use Rattle.std.proofs.Common.{ℕ}
use Rattle.lq_prover_decide.specs.Case.{facts_of}
use Rattle.lq_prover_decide.specs.Deciding.{AllFactsBelow}
use Rattle.lq_logic_predicates.specs.NnfView.{nnfs_view}
use Rattle.lq_cases_prover.specs.Decide.Reading.{AreRowsBelow}
use Rattle.lq_cases_prover.proofs.decide.reading.+take.Given as goal

abbrev pub invariant-take_all-loop-reading : goal.invariant-take_all-loop-reading
invariant-take_all-loop-reading l =
    (n : ℕ) → AllFactsBelow n (facts_of l.fn.facts) → AreRowsBelow n (nnfs_view l.readings) → AllFactsBelow n (facts_of l.facts)
