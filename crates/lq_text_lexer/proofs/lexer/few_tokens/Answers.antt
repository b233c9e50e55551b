use Rattle.lq_text_lexer.proofs.Few.{few_tokens}
use Rattle.lq_text_lexer.proofs.lexer.few_tokens.Goals as goal

pub returns : goal.returns
returns c = few_tokens
