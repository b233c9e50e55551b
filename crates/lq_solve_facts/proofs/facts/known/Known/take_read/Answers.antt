use Rattle.std.proofs.Common.{◌∙◌, sym, subst}
use Rattle.lq_logic_predicates.specs.TableView.{terms_of}
use Rattle.lq_solve_facts.specs.Facts.Read.{IsReadOver}
use Rattle.lq_solve_facts.proofs.FactsLemmas.Holding.{keeps_then, read_kept}
use Rattle.lq_solve_facts.proofs.facts.known.Known.take_read.Goals as goal

pub returns-clause-held : goal.returns-clause-held
returns-clause-held c = λ h r p k m.
    c.take_new_read.ensures.held h
    (subst (λ x. IsReadOver (terms_of c.is_read_known-is_known.new.self.table) x h) (sym c.as_ref.ensures)
    (read_kept c.args.self.now c.is_read_known-is_known.new.self c.args.read.now.value h c.is_read_known-is_known.ensures.keeps r)) p (c.is_read_known-is_known.ensures.kept p k) m

pub returns-clause-keeps : goal.returns-clause-keeps
returns-clause-keeps c = keeps_then _ _ _ c.is_read_known-is_known.ensures.keeps c.take_new_read.ensures.keeps

pub returns-clause-same : goal.returns-clause-same
returns-clause-same c = c.take_new_read.ensures.same ∙ c.is_read_known-is_known.ensures.same
