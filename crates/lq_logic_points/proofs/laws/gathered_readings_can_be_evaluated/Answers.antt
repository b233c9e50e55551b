use Rattle.lq_logic_points.proofs.Reading.{gathered_evaluates}
use Rattle.lq_logic_points.proofs.laws.gathered_readings_can_be_evaluated.Goals as goal

pub returns : goal.returns
returns c = λ terms values reading rows d g e. gathered_evaluates terms values (λ k r s p q. c.rows_say_what_comparisons_say.ensures.once terms k r s d p q) reading rows g e
