use Rattle.lq_top_answers.proofs.InferredLemmas.Texts.{source_found, source_none}
use Rattle.lq_top_answers.proofs.inferred.lines.source_of.Goals as goal

pub returns-in-Some : goal.returns-in-Some
returns-in-Some c = λ i t. source_found i t c.args.sources.now c.args.binder.0 c.in-Some.source c.in-Some.ensures

pub returns-in-None : goal.returns-in-None
returns-in-None c = λ i t. source_none i t c.args.sources.now c.args.binder.0 c.in-None.ensures
