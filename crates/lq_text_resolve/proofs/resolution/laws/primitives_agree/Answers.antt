use Rattle.lq_text_resolve.proofs.ResolutionLemmas.Fitting.{primitives_agree}
use Rattle.lq_text_resolve.proofs.resolution.laws.primitives_agree.Goals as goal

pub returns : goal.returns
returns c = primitives_agree
