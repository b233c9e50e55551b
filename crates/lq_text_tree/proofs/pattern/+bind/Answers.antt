use Rattle.lq_text_tree.proofs.Finds.{bound_more}
use Rattle.lq_text_tree.specs.PatternView.{pat_view}
use Rattle.lq_text_tree.proofs.pattern.+bind.Goals as goal

pub Pats::bind-loop-p-preserved : goal.Pats::bind-loop-p-preserved
Pats::bind-loop-p-preserved g t c =
    bound_more (pat_view _ g.B.Ident.number) _ _ c.p-item.result _ _ _ c.loop-p-test.true c.p-item.is c.in_ok-bind.ensures c.loop-p.invariant
