use Rattle.std.proofs.Common.{◌∙◌}
use Rattle.lq_text_datatypes.proofs.Rows.{row_count}
use Rattle.lq_text_datatypes.proofs.simple.count.Goals as goal

pub returns : goal.returns
returns c = c.len.ensures ∙ row_count c.args.row.now
