use Rattle.lq_text_grammar.proofs.Limits.{within_limit}
use Rattle.lq_text_grammar.proofs.laws.within_limit.Goals as goal

pub returns : goal.returns
returns c = λ start limit ks es d calm. within_limit start limit ks es d calm
