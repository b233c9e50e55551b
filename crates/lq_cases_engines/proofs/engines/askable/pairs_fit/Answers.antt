use Rattle.std.proofs.Common.{◌≤◌, length, subst, arith}
use Rattle.lq_logic_predicates.specs.TableView.{terms_of}
use Rattle.lq_cases_engines.proofs.EnginesLemmas.Fitting.{pairs_fit}
use Rattle.lq_cases_engines.proofs.engines.askable.pairs_fit.Goals as goal

pub returns : goal.returns
returns c = λ yes.
    let last : length (terms_of c.args.terms.now) ≤ c.loop-at.at = subst (λ n. n ≤ c.loop-at.at) c.len-at-end.ensures.count c.loop-at-test.false in
    pairs_fit (terms_of c.args.terms.now) (λ n w. c.loop-at.invariant n (omega (arith, w, last)))
