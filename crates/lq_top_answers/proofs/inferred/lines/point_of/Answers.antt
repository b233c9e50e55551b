use Rattle.std.proofs.Common.{sym, ◌∙◌}
use Rattle.lq_top_answers.proofs.InferredLemmas.Blocks.{point_by_last}
use Rattle.lq_top_answers.proofs.inferred.lines.point_of.Goals as goal

pub returns : goal.returns
returns c = c.function_point.ensures ∙ sym (point_by_last c.args.point c.args.block.now)
