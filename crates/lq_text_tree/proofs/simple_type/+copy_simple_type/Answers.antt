use Rattle.std.proofs.Common.{ap, ◌∙◌}
use Rattle.lq_text_tree.proofs.Copies.{copied_more}
use Rattle.lq_text_tree.proofs.SimpleTypeViews.{simple_types_copied}
use Rattle.lq_text_tree.specs.SimpleTypeView.{simple_type_view}
use Rattle.lq_text_tree.proofs.simple_type.+copy_simple_type.Goals as goal

pub SimpleTypes::copy-loop-t-preserved : goal.SimpleTypes::copy-loop-t-preserved
SimpleTypes::copy-loop-t-preserved t c =
    copied_more simple_type_view _ _ _ _ c.t-item.result c.in_ok-copy.field-0 c.loop-t.invariant c.in_ok-push.ensures.items c.loop-t-test.true (c.in_ok-copy.ensures ∙ ap simple_type_view c.t-item.is)

pub SimpleTypes::copy-returns : goal.SimpleTypes::copy-returns
SimpleTypes::copy-returns t c =
    simple_types_copied c.loop-t.items c.args.self.now _ _ c.loop-t.invariant c.loop-t-test.false c.deref-t-items.ensures.value
