use Rattle.std.proofs.Common.{◌≡◌, map, take}
use Rattle.lq_text_tree.specs.SimpleTypeView.{simple_type_view}
use Rattle.lq_text_tree.proofs.simple_type.+copy_simple_type.Given as goal

abbrev pub invariant-SimpleTypes::copy-loop-t : goal.invariant-SimpleTypes::copy-loop-t
invariant-SimpleTypes::copy-loop-t l =
    map simple_type_view l.items.items ≡ map simple_type_view (take l.t-index l.t-items)
