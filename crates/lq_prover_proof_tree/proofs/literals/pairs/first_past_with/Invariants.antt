use Rattle.lq_prover_proof_tree.proofs.LiteralsLemmas.Leading.{LeadsRows}
use Rattle.lq_logic_predicates.specs.TableView.{terms_of}
use Rattle.lq_logic_predicates.specs.TermView.{sum_of}
use Rattle.lq_prover_proof_tree.proofs.literals.pairs.first_past_with.Given as goal

abbrev pub invariant-loop-later : goal.invariant-loop-later
invariant-loop-later l = LeadsRows (terms_of l.terms) (sum_of l.term) l.fn.at l.later
