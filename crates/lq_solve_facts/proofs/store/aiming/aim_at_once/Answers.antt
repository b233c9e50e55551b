use Rattle.lq_solve_facts.proofs.StoreLemmas.Failing.{refuted_by}
use Rattle.lq_solve_facts.proofs.StoreLemmas.Readings.{refutable_by_before}
use Rattle.lq_solve_facts.proofs.store.aiming.aim_at_once.Goals as goal

pub returns-in-Settled-clause-refuted : goal.returns-in-Settled-clause-refuted
returns-in-Settled-clause-refuted c =
    refuted_by c.refute.result _ _ (λ numbers r. refutable_by_before c.args.known.now c.settle.new.self c.args.reads.now numbers c.settle.ensures.keeps c.settle.ensures.readings r) c.refute.ensures.refuted
