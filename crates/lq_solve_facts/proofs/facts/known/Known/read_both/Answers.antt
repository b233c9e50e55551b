use Rattle.std.proofs.Common.{◌∙◌, true}
use Rattle.lq_logic_predicates.specs.PredView.{formula_of}
use Rattle.lq_logic_predicates.specs.TableView.{terms_of}
use Rattle.lq_solve_facts.proofs.FactsLemmas.Holding.{keeps_then, reading_grows}
use Rattle.lq_solve_facts.proofs.facts.known.Known.read_both.Goals as goal

pub returns-clause-read : goal.returns-clause-read
returns-clause-read c = record {
  met = reading_grows (terms_of c.reading-met.new.self.table) (terms_of c.reading-against.new.self.table) c.reading-met.result true (formula_of c.args.pred.now) c.reading-against.ensures.keeps.terms c.reading-met.ensures.reading;
  against = c.reading-against.ensures.reading;
  plain = c.is_plain.ensures;
}

pub returns-clause-kept : goal.returns-clause-kept
returns-clause-kept c = λ p h. c.reading-against.ensures.kept p (c.reading-met.ensures.kept p h)

pub returns-clause-keeps : goal.returns-clause-keeps
returns-clause-keeps c = keeps_then _ _ _ c.reading-met.ensures.keeps c.reading-against.ensures.keeps

pub returns-clause-same : goal.returns-clause-same
returns-clause-same c = c.reading-against.ensures.same ∙ c.reading-met.ensures.same
