use Rattle.std.proofs.Common.{◌≡◌, map, drop}
use Rattle.lq_text_tree.specs.Items.{constructor_view}
use Rattle.lq_text_scope.specs.Datatypes.{with_constructors}
use Rattle.lq_text_scope.specs.Growing.{StaysUnder}
use Rattle.lq_text_scope.proofs.datatypes.show_constructors.Given as goal

abbrev pub invariant-loop-constructor : goal.invariant-loop-constructor
invariant-loop-constructor l = record {
  shown : with_constructors l.known (map constructor_view (drop l.constructor-index l.constructors)) ≡ with_constructors l.fn.known (map constructor_view l.constructors);
  stays : StaysUnder l.fn.known l.known;
}
