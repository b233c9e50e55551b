use Rattle.lq_solve_facts.proofs.FactsLemmas.Holding.{keeps_then}
use Rattle.lq_solve_facts.proofs.StoreLemmas.Failing.{holds_by, refuted_by}
use Rattle.lq_solve_facts.proofs.StoreLemmas.Readings.{proved_by_before, refutable_by_before}
use Rattle.lq_solve_facts.proofs.store.aiming.aim_again.Goals as goal

pub returns-in-Open-clause-refuted : goal.returns-in-Open-clause-refuted
returns-in-Open-clause-refuted c =
    refuted_by c.aim_at_each.result _ _ (λ numbers r. refutable_by_before c.args.known.now c.aim_at_once.new.known c.args.reads.now numbers c.aim_at_once.ensures.keeps c.aim_at_once.ensures.readings r)
    c.aim_at_each.ensures.refuted

pub returns-in-Open-clause-holds : goal.returns-in-Open-clause-holds
returns-in-Open-clause-holds c =
    holds_by c.aim_at_each.result _ _ (λ f. proved_by_before c.args.known.now c.aim_at_once.new.known c.args.reads.now c.aim_at_once.ensures.keeps c.aim_at_once.ensures.kept f) c.aim_at_each.ensures.holds

pub returns-in-Open-clause-keeps : goal.returns-in-Open-clause-keeps
returns-in-Open-clause-keeps c = keeps_then _ _ _ c.aim_at_once.ensures.keeps c.aim_at_each.ensures.keeps
