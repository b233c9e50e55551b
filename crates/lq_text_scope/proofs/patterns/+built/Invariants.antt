use Rattle.std.proofs.Common.{◌≡◌, map, take}
use Rattle.lq_text_tree.specs.PatternView.{patterns_of}
use Rattle.lq_text_scope.specs.Complaints.{least_with}
use Rattle.lq_text_scope.specs.Patterns.{built_in_all}
use Rattle.lq_text_scope.specs.Views.{found_view}
use Rattle.lq_text_scope.proofs.PatternRows.{seen, row_of}
use Rattle.lq_text_scope.proofs.patterns.+built.Given as goal

abbrev pub invariant-note_row-loop-at : goal.invariant-note_row-loop-at
invariant-note_row-loop-at l =
    found_view l.least.found ≡ least_with (found_view l.initial.least.found) (built_in_all l.known (patterns_of (map seen (take l.at (row_of l.row)))))
