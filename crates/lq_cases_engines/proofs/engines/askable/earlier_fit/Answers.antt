use Rattle.std.proofs.Common.{arith}
use Rattle.lq_logic_predicates.specs.TableView.{terms_of}
use Rattle.lq_logic_predicates.specs.TermView.{sum_of}
use Rattle.lq_cases_engines.proofs.EnginesLemmas.Fitting.{earlier_more}
use Rattle.lq_cases_engines.proofs.engines.askable.earlier_fit.Goals as goal

pub loop-before-preserved : goal.loop-before-preserved
loop-before-preserved c =
    earlier_more (terms_of c.args.terms.now) c.args.at c.loop-before.before (sum_of c.term.result.now) (sum_of c.term-term.result.now)
    c.loop-before.invariant c.term.ensures c.term-term.ensures (c.in_ok-pair_fits.ensures c.if-not-branch.false)

pub returns : goal.returns
returns c = λ yes i s t w e f. c.loop-before.invariant i s t (omega (arith, w, c.loop-before-test.false)) e f
