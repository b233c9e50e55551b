use Rattle.std.proofs.Common.{◌≡◌, ◌++◌, drop}
use Rattle.lq_meaning_normal_tree.specs.BlockView.{definitions_view}
use Rattle.lq_meaning_normalize.specs.MadeNames.Numbers.{binders_view}
use Rattle.lq_meaning_normalize.specs.MadeNames.Order.{names_of_items}
use Rattle.lq_meaning_normalize.proofs.made_names.listing.names_of.Given as goal

abbrev pub invariant-loop-definition : goal.invariant-loop-definition
invariant-loop-definition l =
    binders_view l.names.items ++ names_of_items (definitions_view (drop l.definition-index l.definitions)) ≡ names_of_items (definitions_view l.definitions)
