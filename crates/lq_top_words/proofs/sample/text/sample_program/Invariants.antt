use Rattle.std.proofs.Common.{◌≡◌}
use Rattle.lq_top_words.specs.Sample.Sample.{sample_program_text}
use Rattle.lq_top_words.proofs.sample.text.sample_program.Given as goal

abbrev pub invariant-loop-index : goal.invariant-loop-index
invariant-loop-index l = l.text.items ≡ sample_program_text l.index
