use Rattle.std.proofs.Common.{◌∙◌, sym}
use Rattle.lq_prover_proof_tree.proofs.LiteralsLemmas.Leading.{rows_of_none}
use Rattle.lq_logic_predicates.specs.TableView.{terms_of}
use Rattle.lq_logic_predicates.specs.TermView.{sum_of}
use Rattle.lq_prover_proof_tree.proofs.literals.pairs.first_past_at.Goals as goal

pub returns-clause-none : goal.returns-clause-none
returns-clause-none c =
    rows_of_none (terms_of c.args.terms.now) (sum_of c.term.result.now) c.args.at c.term.ensures (sym c.is_application-applies.ensures ∙ c.if-applies.false)
