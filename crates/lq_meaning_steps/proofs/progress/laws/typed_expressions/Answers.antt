use Rattle.lq_meaning_steps.proofs.ProgressLemmas.Look.{looks}
use Rattle.lq_meaning_steps.proofs.ProgressLemmas.Stepping.{closing_keeps, kept, kept_by_steps, goes_on}
use Rattle.lq_meaning_steps.proofs.progress.laws.typed_expressions.Goals as goal

pub returns-clause-closing : goal.returns-clause-closing
returns-clause-closing c = closing_keeps

pub returns-clause-kept : goal.returns-clause-kept
returns-clause-kept c = kept c.parts_step.ensures.rest c.one_step.ensures.function

pub returns-clause-goes_on : goal.returns-clause-goes_on
returns-clause-goes_on c = goes_on c.one_step.ensures.function

pub returns-clause-look : goal.returns-clause-look
returns-clause-look c = looks

pub returns-clause-steps : goal.returns-clause-steps
returns-clause-steps c = kept_by_steps (kept c.parts_step.ensures.rest c.one_step.ensures.function)
