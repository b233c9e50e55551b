use Rattle.std.proofs.Common.{◌≤◌, length, sym, subst, arith}
use Rattle.std.proofs.Math.Numerals.{add-one}
use Rattle.lq_logic_predicates.specs.TableView.{terms_of}
use Rattle.lq_prover_search.specs.Search.Pairs.{ArePairsUpTo}
use Rattle.lq_prover_search.proofs.SearchLemmas.Along.{upto_end, upto_ordered, upto_sizes}
use Rattle.lq_prover_search.proofs.search.pairs.all_pairs.Goals as goal

pub loop-right-preserved : goal.loop-right-preserved
loop-right-preserved c = (
  c.in_ok-add_pairs_with.ensures.same,
  subst (λ k. ArePairsUpTo (terms_of c.args.terms.now) k c.add_pairs_with.new.pairs.items) (sym (add-one c.loop-right.right))
      (c.in_ok-add_pairs_with.ensures.pairs c.loop-right.invariant.1),
)

pub returns-clause-pairs : goal.returns-clause-pairs
returns-clause-pairs c =
    let past_end : length c.in_ok-places.places.items ≤ c.loop-right.right = omega arith in
    upto_end (terms_of c.args.terms.now) c.loop-right.right c.loop-right.pairs.items (subst (λ l. length l ≤ c.loop-right.right) c.in_ok-places.ensures past_end) c.loop-right.invariant.1

pub returns-clause-ordered : goal.returns-clause-ordered
returns-clause-ordered c = upto_ordered (terms_of c.args.terms.now) c.loop-right.right c.loop-right.pairs.items c.loop-right.invariant.1

pub returns-clause-sizes : goal.returns-clause-sizes
returns-clause-sizes c =
    let past_end : length c.in_ok-places.places.items ≤ c.loop-right.right = omega arith in
    upto_sizes (terms_of c.args.terms.now) c.loop-right.right c.loop-right.pairs.items (subst (λ l. length l ≤ c.loop-right.right) c.in_ok-places.ensures past_end) c.loop-right.invariant.1
