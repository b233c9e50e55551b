use Rattle.std.proofs.Common.{refl}
use Rattle.lq_top_answers.proofs.FailureLemmas.Lines.{class_added}
use Rattle.lq_top_answers.proofs.failure.point_lines.class_number.Goals as goal

pub returns-clause-number : goal.returns-clause-number
returns-clause-number c = class_added c.args.classes.now.keys _ c.args.class _ _ c.in_ok-at.ensures.keys c.in_ok-at.ensures.index refl
