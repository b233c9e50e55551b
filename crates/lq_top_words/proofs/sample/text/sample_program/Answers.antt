-- A sample program isn't long.
use Rattle.std.proofs.Common.{◌≤◌, ◌*◌, List, ℕ, length, ap, arith}
use Rattle.lq_top_words.specs.Sample.Sample.{sample_program_text}
use Rattle.lq_top_words.proofs.SampleLemmas.Lengths.{program_length}
use Rattle.lq_top_words.proofs.sample.text.sample_program.Goals as goal

pub returns-clause-short : goal.returns-clause-short
returns-clause-short c =
    let bound : length (sample_program_text c.loop-index.index) ≤ 95 * c.loop-index.index = program_length c.loop-index.index (omega arith) in
    omega (arith, bound, ap (λ (t : List ℕ). length t) c.loop-index.invariant)
