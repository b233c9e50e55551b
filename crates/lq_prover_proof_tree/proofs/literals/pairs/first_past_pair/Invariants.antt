use Rattle.lq_prover_proof_tree.proofs.LiteralsLemmas.Leading.{LeadsPairs}
use Rattle.lq_logic_predicates.specs.TableView.{terms_of}
use Rattle.lq_prover_proof_tree.proofs.literals.pairs.first_past_pair.Given as goal

abbrev pub invariant-loop-at : goal.invariant-loop-at
invariant-loop-at l = LeadsPairs (terms_of l.terms) l.at
