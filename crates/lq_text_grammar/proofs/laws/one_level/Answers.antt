use Rattle.lq_text_grammar.proofs.Unique.{one_level}
use Rattle.lq_text_grammar.proofs.laws.one_level.Goals as goal

pub returns : goal.returns
returns c = λ start ks k l m d e. one_level start ks k l m d e
