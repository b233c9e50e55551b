use Rattle.lq_cases_prover.specs.Decide.Pairs.{IsAloneUpTo}
use Rattle.lq_logic_predicates.specs.TableView.{terms_of}
use Rattle.lq_cases_prover.proofs.decide.pairs.is_alone.Given as goal

abbrev pub invariant-loop-earlier : goal.invariant-loop-earlier
invariant-loop-earlier l = IsAloneUpTo (terms_of l.table) l.at l.earlier
