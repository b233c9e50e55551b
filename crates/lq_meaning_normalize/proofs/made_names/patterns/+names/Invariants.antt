use Rattle.std.proofs.Common.{◌≡◌, ◌++◌, take}
use Rattle.lq_meaning_normalize.specs.MadeNames.Numbers.{binders_view}
use Rattle.lq_meaning_normalize.proofs.MadeNamesLemmas.PatternRows.{names_of, row_of}
use Rattle.lq_meaning_normalize.proofs.made_names.patterns.+names.Given as goal

abbrev pub invariant-push_row-loop-at : goal.invariant-push_row-loop-at
invariant-push_row-loop-at l = binders_view l.names.items ≡ binders_view l.initial.names.items ++ names_of (take l.at (row_of l.row))
