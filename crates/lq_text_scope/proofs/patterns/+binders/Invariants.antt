use Rattle.std.proofs.Common.{◌≡◌, ◌++◌, map, take}
use Rattle.lq_text_tree.specs.PatternView.{patterns_of}
use Rattle.lq_text_scope.specs.Growing.{Extends}
use Rattle.lq_text_scope.specs.Patterns.{binders_in_all}
use Rattle.lq_text_scope.specs.Views.{binding_view}
use Rattle.lq_text_scope.proofs.PatternRows.{seen, row_of}
use Rattle.lq_text_scope.proofs.patterns.+binders.Given as goal

abbrev pub invariant-push_row-loop-at : goal.invariant-push_row-loop-at
invariant-push_row-loop-at l = record {
  bound : map binding_view l.found.items ≡ map binding_view l.initial.found.items ++ binders_in_all (patterns_of (map seen (take l.at (row_of l.row))));
  begins : Extends l.initial.found.items l.found.items;
}
