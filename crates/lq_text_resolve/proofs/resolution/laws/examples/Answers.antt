use Rattle.lq_text_resolve.proofs.ResolutionLemmas.Samples.{examples}
use Rattle.lq_text_resolve.proofs.resolution.laws.examples.Goals as goal

pub returns : goal.returns
returns c = examples
