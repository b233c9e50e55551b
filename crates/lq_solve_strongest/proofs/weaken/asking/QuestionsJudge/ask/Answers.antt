use Rattle.std.proofs.Common.{subst}
use Rattle.lq_solve_facts.specs.Store.Answer.{IfRefuted}
use Rattle.lq_solve_fixpoint.specs.Questions.Assigned.{constraints_of, instances_in}
use Rattle.lq_solve_fixpoint.specs.Weakening.Chosen.{chosen_in}
use Rattle.lq_solve_fixpoint.specs.Weakening.Judging.{FlowFailsThere}
use Rattle.lq_solve_strongest.proofs.weaken.asking.QuestionsJudge.ask.Goals as goal

pub returns-in-Ok-Refuted-clause-fails : goal.returns-in-Ok-Refuted-clause-fails
returns-in-Ok-Refuted-clause-fails c =
    subst (λ a. IfRefuted a (FlowFailsThere (instances_in c.args.self.now.instances.now) (constraints_of c.args.self.now.implications.now) (chosen_in c.args.chosen.now) c.args.at)) c.in-Ok-Refuted.field-0-is
    c.in-Ok-Refuted.ensures.refuted
