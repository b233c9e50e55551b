-- The case that one of the code stands for.
use Rattle.lq_prover_decide.specs.Case.{Case, facts_of}
use Rattle.lq_prover_decide.specs.declared.literals.Literals.{Literals}
use Rattle.lq_logic_predicates.specs.PredView.{implication_of}
use Rattle.lq_logic_predicates.specs.TableView.{terms_of}

abbrev pub case_of : Literals → Case
case_of l = record { facts = facts_of l.facts; terms = terms_of l.table; implication = implication_of l.implication }
