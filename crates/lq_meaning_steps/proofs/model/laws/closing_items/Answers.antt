use Rattle.lq_meaning_steps.proofs.ModelLemmas.Programs.{close_items-close, close_items-same, close_items-none, close_items-behind}
use Rattle.lq_meaning_steps.proofs.model.laws.closing_items.Goals as goal

pub returns-clause-twice : goal.returns-clause-twice
returns-clause-twice c = close_items-close

pub returns-clause-alike : goal.returns-clause-alike
returns-clause-alike c = close_items-same

pub returns-clause-by_none : goal.returns-clause-by_none
returns-clause-by_none c = close_items-none

pub returns-clause-behind : goal.returns-clause-behind
returns-clause-behind c = close_items-behind
