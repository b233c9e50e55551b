use Rattle.lq_logic_predicates.specs.TableView.{terms_of}
use Rattle.lq_prover_search.proofs.SearchLemmas.Along.{IsAlong}
use Rattle.lq_prover_search.proofs.search.pairs.add_pairs_with.Given as goal

abbrev pub invariant-loop-left : goal.invariant-loop-left
invariant-loop-left l = IsAlong (terms_of l.terms) (terms_of l.table) l.initial.pairs.items l.right l.left l.pairs.items
