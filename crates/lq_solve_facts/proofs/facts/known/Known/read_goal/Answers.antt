use Rattle.std.proofs.Common.{sym, subst}
use Rattle.lq_logic_predicates.specs.PredView.{formula_of}
use Rattle.lq_logic_predicates.specs.TableView.{terms_of}
use Rattle.lq_solve_facts.specs.Facts.Read.{IsReadOver}
use Rattle.lq_solve_facts.proofs.facts.known.Known.read_goal.Goals as goal

pub returns-clause-read : goal.returns-clause-read
returns-clause-read c = subst (λ r. IsReadOver (terms_of c.read_negation-read.new.self.table) r (formula_of c.args.pred.now)) (sym c.in_ok-read.ensures.ok) c.read_negation-read.ensures.read
