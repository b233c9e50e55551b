use Rattle.lq_solve_facts.proofs.StoreLemmas.Failing.{holds_by, refuted_by}
use Rattle.lq_solve_facts.proofs.StoreLemmas.Readings.{refutable_by_before}
use Rattle.lq_solve_facts.proofs.store.aiming.aim_at_each.Goals as goal

pub returns-in-Settled-clause-refuted : goal.returns-in-Settled-clause-refuted
returns-in-Settled-clause-refuted c =
    refuted_by c.refute.result _ _
    (λ numbers r. refutable_by_before c.args.known.now c.stand_against_each.new.known c.args.reads.now numbers c.stand_against_each.ensures.keeps c.stand_against_each.ensures.readings r) c.refute.ensures.refuted

pub returns-in-Settled-clause-holds : goal.returns-in-Settled-clause-holds
returns-in-Settled-clause-holds c = holds_by c.refute.result _ _ (λ f. absurd f) c.refute.ensures.holds

pub returns-in-Proved-clause-holds : goal.returns-in-Proved-clause-holds
returns-in-Proved-clause-holds c = c.stand_against_each.ensures.proved c.in-Proved.is
