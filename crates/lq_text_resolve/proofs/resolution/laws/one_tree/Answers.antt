use Rattle.lq_text_resolve.proofs.ResolutionLemmas.Determined.{one_tree}
use Rattle.lq_text_resolve.proofs.resolution.laws.one_tree.Goals as goal

pub returns : goal.returns
returns c = one_tree
