use Rattle.lq_text_grammar.proofs.Unique.{one_reading}
use Rattle.lq_text_grammar.proofs.laws.one_reading.Goals as goal

pub returns : goal.returns
returns c = λ start ks es fs d e. one_reading start ks es fs d e
