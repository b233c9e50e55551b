use Rattle.std.proofs.Common.{map}
use Rattle.lq_meaning_normalize.specs.MadeNames.Numbers.{binders_view, is_made, source_view}
use Rattle.lq_meaning_normalize.proofs.MadeNamesLemmas.Tables.{Counts}
use Rattle.lq_meaning_normalize.proofs.made_names.numbers.numbered.Given as goal

abbrev pub invariant-loop-name : goal.invariant-loop-name
invariant-loop-name l = Counts (is_made (map source_view l.sources)) (binders_view l.names) l.name-index l.made l.numbers.items
