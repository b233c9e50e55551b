use Rattle.lq_text_resolve.proofs.ResolutionLemmas.Resolutions.{one_resolution}
use Rattle.lq_text_resolve.proofs.resolution.laws.one_resolution.Goals as goal

pub returns : goal.returns
returns c = one_resolution
