use Rattle.std.proofs.Common.{refl, sym, subst, arith}
use Rattle.lq_prover_proof_tree.specs.Trees.Proves.{five_ways}
use Rattle.lq_logic_predicates.specs.NnfView.{nnfs_view}
use Rattle.lq_logic_predicates.specs.TableView.{terms_of}
use Rattle.lq_logic_predicates.specs.TermView.{sum_of}
use Rattle.lq_prover_search.specs.Search.Pairs.{AreWays, IsNumbered}
use Rattle.lq_prover_search.proofs.SearchLemmas.Along.{can_pair, is_pair, no_first, no_two, numbered_at_place, operation_at, place_below}
use Rattle.lq_prover_search.proofs.search.pairs.pair_of.Goals as goal

pub term-requires : goal.term-requires
term-requires c =
    let h = c.requires.left in let k = c.requires.right in
    place_below (terms_of c.args.terms.now) c.args.places.now c.args.left c.requires.places (omega (arith, h, k))

pub returns-in_default-clause-none : goal.returns-in_default-clause-none
returns-in_default-clause-none c = λ s a b t d e at _ two.
    let h = c.requires.left in let k = c.requires.right in
    no_first (terms_of c.args.terms.now) c.args.places.now c.args.left (sum_of c.term.result.now) c.applied.result c.requires.places (omega (arith, h, k)) c.term.ensures
    c.applied.ensures.view c.in_default.is s a b t d e at two

pub returns-then-not-is_same-clause-none : goal.returns-then-not-is_same-clause-none
returns-then-not-is_same-clause-none c = λ s a b t d e at next two.
    let h = c.requires.left in let k = c.requires.right in
    let here = operation_at (terms_of c.args.terms.now) c.args.places.now c.args.left (sum_of c.term.result.now) c.applied.result c.in-Some.one c.requires.places (omega (arith, h, k)) c.term.ensures
    c.applied.ensures.view c.in-Some.is c.in-Some.ensures.term in
    no_two (terms_of c.args.terms.now) c.args.left c.args.right c.in-Some.one c.args.other here c.requires.other
    (λ same. let x = c.is_same.ensures.1 same in let y = c.if-not-is_same.true in cc (x, y)) s a b t d e at next two

pub ways_of-requires-clause-one : goal.ways_of-requires-clause-one
ways_of-requires-clause-one c =
    let h = c.requires.left in let k = c.requires.right in let o = c.in-Some.one in
    let here = operation_at (terms_of c.args.terms.now) c.args.places.now c.args.left (sum_of c.term.result.now) c.applied.result o c.requires.places (omega (arith, h, k)) c.term.ensures
    c.applied.ensures.view c.in-Some.is c.in-Some.ensures.term in
    subst (λ l. IsNumbered l (sum_of o.term.now) (sum_of o.left.now) (sum_of o.right.now)) (sym c.requires.table)
    (numbered_at_place (terms_of c.args.terms.now) c.args.left o c.requires.arguments here)

pub ways_of-requires-clause-other : goal.ways_of-requires-clause-other
ways_of-requires-clause-other c =
    let o = c.args.other in
    subst (λ l. IsNumbered l (sum_of o.term.now) (sum_of o.left.now) (sum_of o.right.now)) (sym c.requires.table)
    (numbered_at_place (terms_of c.args.terms.now) c.args.right o c.requires.arguments c.requires.other)

pub ways_of-requires-clause-fits : goal.ways_of-requires-clause-fits
ways_of-requires-clause-fits c =
    let h = c.requires.left in let k = c.requires.right in let o = c.in-Some.one in
    let here = operation_at (terms_of c.args.terms.now) c.args.places.now c.args.left (sum_of c.term.result.now) c.applied.result o c.requires.places (omega (arith, h, k)) c.term.ensures
    c.applied.ensures.view c.in-Some.is c.in-Some.ensures.term in
    can_pair (terms_of c.args.terms.now) c.args.left c.args.right o c.args.other h c.requires.fits (c.is_same.ensures.0 c.if-not-is_same.false) here c.requires.other

pub returns-clause-pair : goal.returns-clause-pair
returns-clause-pair c =
    let h = c.requires.left in let k = c.requires.right in let o = c.in-Some.one in let q = c.args.other in
    let here = operation_at (terms_of c.args.terms.now) c.args.places.now c.args.left (sum_of c.term.result.now) c.applied.result o c.requires.places (omega (arith, h, k)) c.term.ensures
    c.applied.ensures.view c.in-Some.is c.in-Some.ensures.term in
    let five = five_ways (sum_of o.term.now) (sum_of o.left.now) (sum_of o.right.now) (sum_of q.term.now) (sum_of q.left.now) (sum_of q.right.now) in (
      is_pair (terms_of c.args.terms.now) c.args.left c.args.right o q _ (c.is_same.ensures.0 c.if-not-is_same.false) here c.requires.other refl refl
          (subst (λ l. AreWays l five (nnfs_view c.in_ok-ways.ways)) c.requires.table c.in_ok-ways.ensures.ways),
      refl,
      refl,
    )
