use Rattle.lq_text_lexer.proofs.Unique.{has_one_reading}
use Rattle.lq_text_lexer.proofs.lexer.one_reading.Goals as goal

pub returns : goal.returns
returns c = has_one_reading
