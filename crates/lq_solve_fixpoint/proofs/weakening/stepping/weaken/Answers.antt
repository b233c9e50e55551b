use Rattle.std.proofs.Common.{subst}
use Rattle.lq_solve_fixpoint.specs.Weakening.Chosen.{chosen_in, total}
use Rattle.lq_solve_fixpoint.specs.Weakening.Index.{IsWithinOne}
use Rattle.lq_solve_fixpoint.specs.Weakening.Waking.{Wakes}
use Rattle.lq_solve_fixpoint.proofs.WeakeningLemmas.Members.{agree_but}
use Rattle.lq_solve_fixpoint.proofs.WeakeningLemmas.Weakening.{one_chosen, step_there}
use Rattle.lq_solve_fixpoint.proofs.weakening.stepping.weaken.Goals as goal

pub returns-clause-weakening : goal.returns-clause-weakening
returns-clause-weakening c = λ I cs at ag ac g fails w.
    step_there c.refuted_instances.ensures.refuted c.refuted_instances.ensures.others I cs c.args.goals.now c.args.spans.now at c.args.unknown (chosen_in c.args.chosen.now) (chosen_in c.remove_all.new.chosen) c.args.refuted.now c.args.waiting.now.keys c.wake_all.new.waiting.keys ag ac g fails c.remove_all.ensures.chosen (subst (λ l. Wakes c.args.goals.now (IsWithinOne l) c.args.waiting.now.keys c.wake_all.new.waiting.keys) c.spans_of.ensures c.in_ok-wake_all.ensures) w

pub returns-clause-falls : goal.returns-clause-falls
returns-clause-falls c = λ I cs at ag g fails.
    one_chosen c.refuted_instances.ensures.one I cs c.args.goals.now (chosen_in c.args.chosen.now) at c.args.unknown c.args.refuted.now ag g fails (total c.remove_all.new.chosen) (total c.args.chosen.now) c.remove_all.ensures.falls

pub returns-clause-agree : goal.returns-clause-agree
returns-clause-agree c = agree_but c.args.unknown c.args.refuted.now (chosen_in c.args.chosen.now) (chosen_in c.remove_all.new.chosen) c.remove_all.ensures.chosen
