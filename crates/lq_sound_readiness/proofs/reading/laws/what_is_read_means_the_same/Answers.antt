use Rattle.lq_sound_readiness.proofs.ReadingLemmas.Blocks.{program_read}
use Rattle.lq_sound_readiness.proofs.reading.laws.what_is_read_means_the_same.Goals as goal

pub returns : goal.returns
returns c = program_read
