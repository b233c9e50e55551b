use Rattle.lq_sound_programs.proofs.PlainLemmas.DataExample.{is_plain}
use Rattle.lq_sound_programs.proofs.plain.laws.data_example_is_plain.Goals as goal

pub returns : goal.returns
returns c = is_plain
