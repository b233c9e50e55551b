use Rattle.lq_sound_values.proofs.InhabitantsLemmas.Numbers.{calls_at, calls_make, same_at, same_make, elements_at, elements_make}
use Rattle.lq_sound_values.proofs.inhabitants.laws.numbers_below.Goals as goal

pub returns-clause-calls : goal.returns-clause-calls
returns-clause-calls c = λ S n g W σ by x A T. (λ h m lt. calls_at S g W σ by x A T n m lt h, calls_make S g W σ by x A T n)

pub returns-clause-slots : goal.returns-clause-slots
returns-clause-slots c = λ S n W K E. (λ h m lt. same_at S W K E n m lt h, same_make S W K E n)

pub returns-clause-elements : goal.returns-clause-elements
returns-clause-elements c = λ S n W w. (λ h m lt. elements_at S W w n m lt h, elements_make S W w n)
