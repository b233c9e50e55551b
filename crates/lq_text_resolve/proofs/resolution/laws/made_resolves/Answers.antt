use Rattle.lq_text_resolve.proofs.ResolutionLemmas.Resolving.{made_resolves}
use Rattle.lq_text_resolve.proofs.resolution.laws.made_resolves.Goals as goal

pub returns : goal.returns
returns c = made_resolves
