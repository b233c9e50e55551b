use Rattle.std.proofs.Common.{◌≡◌, slice_index_or, arith}
use Rattle.lq_logic_predicates.specs.TableView.{terms_of}
use Rattle.lq_logic_predicates.specs.TermView.{sum_of}
use Rattle.lq_prover_search.proofs.SearchLemmas.Along.{along_next, here_at, no_second, operation_at, place_below, place_of, upto_next, upto_skip}
use Rattle.lq_prover_search.proofs.search.pairs.add_pairs_with.Goals as goal

pub term-requires : goal.term-requires
term-requires c = place_below (terms_of c.args.terms.now) c.args.places.now c.args.right c.requires.places c.requires.right

pub returns-in_default-clause-pairs : goal.returns-in_default-clause-pairs
returns-in_default-clause-pairs c =
    upto_skip (terms_of c.args.terms.now) c.args.right c.args.pairs.now.items
    (no_second (terms_of c.args.terms.now) c.args.places.now c.args.right (sum_of c.term.result.now) c.applied.result c.requires.places c.requires.right c.term.ensures
    c.applied.ensures.view c.in_default.is)

pub pair_of-requires-clause-other : goal.pair_of-requires-clause-other
pair_of-requires-clause-other c =
    operation_at (terms_of c.args.terms.now) c.args.places.now c.args.right (sum_of c.term.result.now) c.applied.result c.in-Some.other c.requires.places c.requires.right c.term.ensures
    c.applied.ensures.view c.in-Some.is c.in-Some.ensures.term

pub loop-left-preserved : goal.loop-left-preserved
loop-left-preserved c =
    along_next (terms_of c.args.terms.now) (terms_of c.loop-left.table) (terms_of c.pair_of.new.table) c.args.pairs.now.items c.args.right c.loop-left.left c.loop-left.pairs.items
    c.add_pair.new.pairs.items c.in_ok-found.found c.loop-left-test.true c.loop-left.invariant c.in_ok-found.ensures.same c.in_ok-found.ensures.pair c.in_ok-found.ensures.none c.in_ok-add_pair.ensures

pub returns-clause-pairs : goal.returns-clause-pairs
returns-clause-pairs c =
    let right = c.args.right in let places = c.args.places.now in
    let ended : right ≡ c.loop-left.left = omega arith in
    upto_next (terms_of c.args.terms.now) (terms_of c.loop-left.table) c.args.pairs.now.items right c.loop-left.left (sum_of c.term.result.now) c.loop-left.pairs.items
    (here_at (terms_of c.args.terms.now) right (slice_index_or places right 0) (sum_of c.term.result.now) (place_of (terms_of c.args.terms.now) places right c.requires.places c.requires.right) c.term.ensures)
    c.loop-left.invariant ended
