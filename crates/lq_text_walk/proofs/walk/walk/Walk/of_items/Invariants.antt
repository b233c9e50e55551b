use Rattle.std.proofs.Common.{◌≡◌, map, take}
use Rattle.lq_text_tree.specs.Items.{items_view}
use Rattle.lq_text_walk.specs.Walk.Pending.{seen}
use Rattle.lq_text_walk.specs.Walk.Visits.{enter_item}
use Rattle.lq_text_walk.proofs.walk.walk.Walk.of_items.Given as goal

abbrev pub invariant-loop-item : goal.invariant-loop-item
invariant-loop-item g l = seen _ g.B.Ident.number l.stack.items ≡ map enter_item (items_view _ g.B.Ident.number (take l.item-index l.items))
