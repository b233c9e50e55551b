use Rattle.std.proofs.Common.{map, sym, ap, ◌∙◌, [], ◌∷◌, arith}
use Rattle.std.proofs.lemmas.List.{map-append}
use Rattle.lq_text_tree.specs.Items.{item_view}
use Rattle.lq_text_walk.specs.Walk.Pending.{visit_view, seen}
use Rattle.lq_text_walk.proofs.WalkLemmas.Nexts.{items_more, items_whole, map_reverse}
use Rattle.lq_text_walk.proofs.walk.walk.Walk.of_items.Goals as goal

pub loop-item-preserved : goal.loop-item-preserved
loop-item-preserved g c =
    items_more (item_view _ g.B.Ident.number) c.args.items.now c.loop-item.item-index c.item-item.result _ _ c.loop-item-test.true c.item-item.is c.loop-item.invariant
    (ap (seen _ g.B.Ident.number) c.in_ok-push.ensures.items ∙ map-append (visit_view _ g.B.Ident.number) c.loop-item.stack.items _)

pub returns : goal.returns
returns g c =
    items_whole (item_view _ g.B.Ident.number) c.args.items.now c.loop-item.item-index (seen _ g.B.Ident.number c.loop-item.stack.items) _ (omega (arith, c.loop-item-test.false)) c.loop-item.invariant
    (ap (seen _ g.B.Ident.number) c.reverse.ensures.items ∙ map_reverse (visit_view _ g.B.Ident.number) c.loop-item.stack.items)
