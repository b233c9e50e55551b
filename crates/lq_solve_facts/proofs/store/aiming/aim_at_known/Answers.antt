use Rattle.lq_solve_facts.proofs.FactsLemmas.Holding.{keeps_then, read_kept}
use Rattle.lq_solve_facts.proofs.store.aiming.aim_at_known.Goals as goal

pub returns-in-Proved-clause-holds : goal.returns-in-Proved-clause-holds
returns-in-Proved-clause-holds c = λ h i p k m.
    c.stand_against_read.ensures.proved c.in-Proved.is h (read_kept c.args.known.now c.proves_read.new.self c.args.read.now.value h c.proves_read.ensures.keeps i) p (c.proves_read.ensures.kept p k) m

pub returns-in-Proved-clause-keeps : goal.returns-in-Proved-clause-keeps
returns-in-Proved-clause-keeps c = keeps_then _ _ _ c.proves_read.ensures.keeps c.stand_against_read.ensures.keeps

pub returns-in-Settled : goal.returns-in-Settled
returns-in-Settled c = record { holds = tt; refuted = tt; keeps = keeps_then _ _ _ c.proves_read.ensures.keeps c.stand_against_read.ensures.keeps }
