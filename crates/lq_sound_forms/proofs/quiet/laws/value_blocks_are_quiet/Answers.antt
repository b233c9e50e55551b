use Rattle.lq_sound_forms.specs.Pures.Cores.{block_core}
use Rattle.lq_sound_forms.proofs.QuietLemmas.Blocks.{block_quiet}
use Rattle.lq_sound_forms.proofs.QuietLemmas.Closing.{close_quiet}
use Rattle.lq_sound_forms.proofs.quiet.laws.value_blocks_are_quiet.Goals as goal

pub returns : goal.returns
returns c = λ b h. (block_quiet b h, λ ps. close_quiet ps (block_core b) (block_quiet b h))
