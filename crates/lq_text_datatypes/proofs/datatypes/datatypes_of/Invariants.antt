use Rattle.std.proofs.Common.{◌≡◌, map, take}
use Rattle.lq_text_walk.specs.Scoped.Views.{data_view}
use Rattle.lq_text_tree.specs.Items.{parsed_items}
use Rattle.lq_text_datatypes.specs.Datatypes.{datatypes_in}
use Rattle.lq_text_datatypes.proofs.datatypes.datatypes_of.Given as goal

abbrev pub invariant-loop-item : goal.invariant-loop-item
invariant-loop-item l = map data_view l.datatypes.items ≡ datatypes_in (parsed_items (take l.item-index l.items))
