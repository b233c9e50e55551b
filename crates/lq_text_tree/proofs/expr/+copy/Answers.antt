use Rattle.std.proofs.Common.{sym, ap, ◌∙◌}
use Rattle.lq_text_tree.proofs.Copies.{copied_more}
use Rattle.lq_text_tree.proofs.TreeViews.{view-Build, view-Match, exprs_copied, arms_copied}
use Rattle.lq_text_tree.specs.Tree.{match_on}
use Rattle.lq_text_tree.specs.TreeView.{form_view, case_view, cases_view, tree_view}
use Rattle.lq_text_tree.proofs.expr.+copy.Goals as goal

pub Node::copy-returns-in_ok-copy-in-Build : goal.Node::copy-returns-in_ok-copy-in-Build
Node::copy-returns-in_ok-copy-in-Build g t c =
    let a = view-Build _ g.B.Ident.number c.in-Build.c c.in-Build.held c.in_ok-copy-in-Build.field-0 in
    let b = view-Build _ g.B.Ident.number c.in-Build.c c.in-Build.held c.in-Build.parts in
    cc (a, b, c.in_ok-copy-in-Build.ensures)

pub Node::copy-returns-in_ok-copy-in-Match : goal.Node::copy-returns-in_ok-copy-in-Match
Node::copy-returns-in_ok-copy-in-Match g t c =
    view-Match _ g.B.Ident.number c.in_ok-boxed-in-Match.field-0 c.in_ok-copy-in-Match.field-0
    ∙ ap (λ e. match_on e (cases_view _ g.B.Ident.number c.in_ok-copy-in-Match.field-0)) (c.in_ok-boxed-in-Match.ensures ∙ ap (tree_view _ g.B.Ident.number) c.deref-in-Match.ensures)
    ∙ ap (match_on (tree_view _ g.B.Ident.number c.in-Match.e.value)) c.in_ok-copy-in-Match.ensures
    ∙ sym (view-Match _ g.B.Ident.number c.in-Match.e c.in-Match.arms)
    ∙ ap (form_view _ g.B.Ident.number) (sym c.in-Match.is)

pub Arms::copy-loop-arm-preserved : goal.Arms::copy-loop-arm-preserved
Arms::copy-loop-arm-preserved g t c =
    copied_more (case_view _ g.B.Ident.number) _ _ _ _ c.arm-item.result c.in_ok-copy.field-0 c.loop-arm.invariant c.in_ok-push.ensures.items c.loop-arm-test.true (c.in_ok-copy.ensures ∙ ap (case_view _ g.B.Ident.number) c.arm-item.is)

pub Arms::copy-returns : goal.Arms::copy-returns
Arms::copy-returns g t c =
    arms_copied _ g.B.Ident.number c.loop-arm.items c.args.self.now _ _ c.loop-arm.invariant c.loop-arm-test.false c.deref-arm-items.ensures.value

pub Exprs::copy-loop-e-preserved : goal.Exprs::copy-loop-e-preserved
Exprs::copy-loop-e-preserved g t c =
    copied_more (tree_view _ g.B.Ident.number) _ _ _ _ c.e-item.result c.in_ok-copy.field-0 c.loop-e.invariant c.in_ok-push.ensures.items c.loop-e-test.true (c.in_ok-copy.ensures ∙ ap (tree_view _ g.B.Ident.number) c.e-item.is)

pub Exprs::copy-returns : goal.Exprs::copy-returns
Exprs::copy-returns g t c =
    exprs_copied _ g.B.Ident.number c.loop-e.items c.args.self.now _ _ c.loop-e.invariant c.loop-e-test.false c.deref-e-items.ensures.value
