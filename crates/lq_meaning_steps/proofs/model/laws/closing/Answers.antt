use Rattle.lq_meaning_steps.proofs.ModelLemmas.Binding.{close_behind, fits_binds, pair_of, pairs_append}
use Rattle.lq_meaning_steps.proofs.ModelLemmas.Substitution.{close-close, close-same, close-none}
use Rattle.lq_meaning_steps.proofs.model.laws.closing.Goals as goal

pub returns-clause-twice : goal.returns-clause-twice
returns-clause-twice c = close-close

pub returns-clause-alike : goal.returns-clause-alike
returns-clause-alike c = close-same

pub returns-clause-by_none : goal.returns-clause-by_none
returns-clause-by_none c = close-none

pub returns-clause-behind : goal.returns-clause-behind
returns-clause-behind c = close_behind

pub returns-clause-binds : goal.returns-clause-binds
returns-clause-binds c = fits_binds

pub returns-clause-one : goal.returns-clause-one
returns-clause-one c = pair_of

pub returns-clause-together : goal.returns-clause-together
returns-clause-together c = pairs_append
