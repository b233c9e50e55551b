use Rattle.std.proofs.Common.{◌∙◌}
use Rattle.lq_solve_facts.proofs.FactsLemmas.Holding.{keeps_then}
use Rattle.lq_solve_facts.proofs.facts.known.Known.take_facts.Goals as goal

pub returns-clause-held : goal.returns-clause-held
returns-clause-held c = λ p h m. c.take_new.ensures.held p (c.is_known-is_known.ensures.kept p h) m

pub returns-clause-keeps : goal.returns-clause-keeps
returns-clause-keeps c = keeps_then _ _ _ c.is_known-is_known.ensures.keeps c.take_new.ensures.keeps

pub returns-clause-same : goal.returns-clause-same
returns-clause-same c = c.take_new.ensures.same ∙ c.is_known-is_known.ensures.same
