use Rattle.std.proofs.Common.{ap, ◌∙◌}
use Rattle.lq_text_tree.proofs.Copies.{copied_more}
use Rattle.lq_text_tree.proofs.PatternViews.{pats_copied}
use Rattle.lq_text_tree.specs.PatternView.{pat_view}
use Rattle.lq_text_tree.proofs.pattern.+copy_pattern.Goals as goal

pub Pats::copy-loop-p-preserved : goal.Pats::copy-loop-p-preserved
Pats::copy-loop-p-preserved g t c =
    copied_more (pat_view _ g.B.Ident.number) _ _ _ _ c.p-item.result c.in_ok-copy.field-0 c.loop-p.invariant c.in_ok-push.ensures.items c.loop-p-test.true (c.in_ok-copy.ensures ∙ ap (pat_view _ g.B.Ident.number) c.p-item.is)

pub Pats::copy-returns : goal.Pats::copy-returns
Pats::copy-returns g t c =
    pats_copied _ g.B.Ident.number c.loop-p.items c.args.self.now _ _ c.loop-p.invariant c.loop-p-test.false c.deref-p-items.ensures.value
