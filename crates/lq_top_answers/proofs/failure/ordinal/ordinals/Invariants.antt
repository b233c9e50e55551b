use Rattle.std.proofs.Common.{map}
use Rattle.lq_logic_text.specs.Views.{source_view}
use Rattle.lq_top_answers.proofs.FailureLemmas.Counted.{CountedTo}
use Rattle.lq_top_answers.proofs.failure.ordinal.ordinals.Given as goal

abbrev pub invariant-loop-source : goal.invariant-loop-source
invariant-loop-source l = CountedTo (map source_view l.sources) l.source-index l.counts.items l.numbers.items
