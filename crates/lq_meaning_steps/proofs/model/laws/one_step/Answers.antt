use Rattle.lq_meaning_steps.proofs.ModelLemmas.Rows.{step_from, step_to}
use Rattle.lq_meaning_steps.proofs.ModelLemmas.States.{determined}
use Rattle.lq_meaning_steps.proofs.model.laws.one_step.Goals as goal

pub returns-clause-function : goal.returns-clause-function
returns-clause-function c = λ e w n. (step_from e w n, step_to e w n)

pub returns-clause-once : goal.returns-clause-once
returns-clause-once c = λ e w n m s t. cc (step_from e w n s, step_from e w m t)

pub returns-clause-states : goal.returns-clause-states
returns-clause-states c = determined
