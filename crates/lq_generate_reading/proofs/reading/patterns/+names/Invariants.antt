use Rattle.std.proofs.Common.{◌≡◌, ◌++◌, take}
use Rattle.lq_generate_reading.specs.Visibility.Stack.{names_view}
use Rattle.lq_generate_reading.proofs.ReadingLemmas.PatternRows.{names_of, row_of}
use Rattle.lq_generate_reading.proofs.reading.patterns.+names.Given as goal

abbrev pub invariant-push_row-loop-at : goal.invariant-push_row-loop-at
invariant-push_row-loop-at l = names_view l.names.items ≡ names_view l.initial.names.items ++ names_of (take l.at (row_of l.row))
