use Rattle.lq_meaning_normalize.proofs.NormalizeLemmas.Types.{program_same}
use Rattle.lq_meaning_normalize.proofs.normalize.laws.programs_are_one_pass.Goals as goal

pub returns : goal.returns
returns c k is = program_same c.one_pass.ensures is k
