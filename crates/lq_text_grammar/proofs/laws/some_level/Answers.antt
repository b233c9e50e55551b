use Rattle.lq_text_grammar.proofs.Ahead.{some_level}
use Rattle.lq_text_grammar.proofs.laws.some_level.Goals as goal

pub returns : goal.returns
returns c = λ start ks k h. some_level start ks k h
