use Rattle.std.proofs.Common.{◌≡◌, take}
use Rattle.lq_prover_proof_tree.specs.Literals.Parts.{places_from}
use Rattle.lq_logic_predicates.specs.TableView.{terms_of}
use Rattle.lq_prover_proof_tree.proofs.literals.parts.applications.Given as goal

abbrev pub invariant-loop-at : goal.invariant-loop-at
invariant-loop-at l = l.numbers.items ≡ places_from 0 (take l.at (terms_of l.terms))
