use Rattle.lq_text_front.proofs.TextsLemmas.Resolutions.{one_resolution}
use Rattle.lq_text_front.proofs.texts.laws.one_resolution.Goals as goal

pub returns : goal.returns
returns c = one_resolution
