use Rattle.lq_logic_predicates.specs.TableView.{terms_of}
use Rattle.lq_cases_engines.specs.Engines.Askable.{EarlierFit}
use Rattle.lq_cases_engines.proofs.engines.askable.earlier_fit.Given as goal

abbrev pub invariant-loop-before : goal.invariant-loop-before
invariant-loop-before l = EarlierFit (terms_of l.terms) l.at l.before
