use Rattle.std.proofs.Common.{◌≡◌}
use Rattle.lq_logic_predicates.specs.TableView.{terms_of}
use Rattle.lq_prover_search.specs.Search.Pairs.{ArePairsUpTo}
use Rattle.lq_prover_search.proofs.search.pairs.all_pairs.Given as goal

abbrev pub invariant-loop-right : goal.invariant-loop-right
invariant-loop-right l = (terms_of l.table ≡ terms_of l.terms) × ArePairsUpTo (terms_of l.terms) l.right l.pairs.items
