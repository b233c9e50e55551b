use Rattle.std.proofs.Common.{◌≡◌, drop, map}
use Rattle.lq_text_tree.specs.SimpleTypeView.{simple_type_view, simple_types_items}
use Rattle.lq_generate_fresh.proofs.FreshLemmas.Known.{in_order}
use Rattle.lq_generate_fresh.proofs.fresh.defined.are_parameters.Given as goal

abbrev pub invariant-loop-at : goal.invariant-loop-at
invariant-loop-at l =
    let all = map simple_type_view (simple_types_items l.types) in in_order 0 all ≡ in_order l.at (drop l.at all)
