use Rattle.lq_sound_readiness.proofs.ReadingLemmas.Typed.{program_typed}
use Rattle.lq_sound_readiness.proofs.reading.laws.what_is_read_is_typed.Goals as goal

pub returns : goal.returns
returns c = program_typed
