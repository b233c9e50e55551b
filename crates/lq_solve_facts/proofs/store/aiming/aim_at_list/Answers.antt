use Rattle.lq_solve_facts.proofs.FactsLemmas.Holding.{keeps_then}
use Rattle.lq_solve_facts.proofs.StoreLemmas.Failing.{holds_by, refuted_by}
use Rattle.lq_solve_facts.proofs.StoreLemmas.Readings.{proved_by_before, refutable_by_before}
use Rattle.lq_solve_facts.proofs.store.aiming.aim_at_list.Goals as goal

pub returns-clause-refuted : goal.returns-clause-refuted
returns-clause-refuted c =
    refuted_by c.aim_again.result _ _ (λ numbers r. refutable_by_before c.args.known.now c.proves_each.new.known c.args.reads.now numbers c.proves_each.ensures.keeps c.proves_each.ensures.same r)
    c.aim_again.ensures.refuted

pub returns-clause-holds : goal.returns-clause-holds
returns-clause-holds c =
    holds_by c.aim_again.result _ _ (λ f. proved_by_before c.args.known.now c.proves_each.new.known c.args.reads.now c.proves_each.ensures.keeps c.proves_each.ensures.kept f) c.aim_again.ensures.holds

pub returns-clause-keeps : goal.returns-clause-keeps
returns-clause-keeps c = keeps_then _ _ _ c.proves_each.ensures.keeps c.aim_again.ensures.keeps

pub returns-then-proves_each-clause-holds : goal.returns-then-proves_each-clause-holds
returns-then-proves_each-clause-holds c = c.proves_each.ensures.proved c.if-proves_each.true
