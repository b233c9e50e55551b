use Rattle.lq_sound_values.proofs.InhabitantsLemmas.Staying.{fit_down, fit_more, agrees_down}
use Rattle.lq_sound_values.proofs.inhabitants.laws.inhabitants_stay.Goals as goal

pub returns-clause-smaller : goal.returns-clause-smaller
returns-clause-smaller c = fit_down

pub returns-clause-extended : goal.returns-clause-extended
returns-clause-extended c = fit_more

pub returns-clause-stores : goal.returns-clause-stores
returns-clause-stores c = agrees_down
