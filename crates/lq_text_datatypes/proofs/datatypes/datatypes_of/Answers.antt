use Rattle.std.proofs.Common.{map}
use Rattle.lq_text_walk.specs.Scoped.Views.{data_view}
use Rattle.lq_text_datatypes.proofs.Defining.{one_more}
use Rattle.lq_text_datatypes.proofs.datatypes.datatypes_of.Goals as goal

pub loop-item-preserved : goal.loop-item-preserved
loop-item-preserved c =
    one_more c.args.items.now c.loop-item.item-index c.item-item.result (map data_view c.loop-item.datatypes.items) _ c.loop-item-test.true c.item-item.is c.loop-item.invariant c.in_ok-push_datatype.ensures
