use Rattle.std.proofs.Common.{nat_eq, take, ap, ◌∙◌}
use Rattle.indexmap.specs.IndexSet.{insert_all}
use Rattle.lq_text_tree.proofs.Finds.{found_more, found_cases_more, take-insert_all}
use Rattle.lq_text_tree.specs.Finding.{found_in}
use Rattle.lq_text_tree.specs.Pattern.{bound_in}
use Rattle.lq_text_tree.specs.PatternView.{pat_view}
use Rattle.lq_text_tree.specs.TreeView.{case_view, tree_view}
use Rattle.lq_text_tree.proofs.expr.+free_names.Goals as goal

pub Exprs::find_free-loop-e-preserved : goal.Exprs::find_free-loop-e-preserved
Exprs::find_free-loop-e-preserved g t c = record {
  bound = c.in_ok-find_free.ensures.bound ∙ c.loop-e.invariant.bound;
  found = found_more (tree_view _ g.B.Ident.number) _ _ c.e-item.result _ _ _ _ c.loop-e-test.true c.e-item.is (c.in_ok-find_free.ensures.found ∙ ap (λ b. found_in b c.loop-e.found.keys (tree_view _ g.B.Ident.number c.e-item.result)) c.loop-e.invariant.bound) c.loop-e.invariant.found;
}

pub Arms::find_free-loop-arm-preserved : goal.Arms::find_free-loop-arm-preserved
Arms::find_free-loop-arm-preserved g t c = record {
  bound = c.in_ok-find_free.ensures.bound ∙ c.loop-arm.invariant.bound;
  found = found_cases_more (case_view _ g.B.Ident.number) _ _ c.arm-item.result _ _ _ _ c.loop-arm-test.true c.arm-item.is (c.in_ok-find_free.ensures.found ∙ ap (λ b. found_in (insert_all nat_eq b (bound_in (case_view _ g.B.Ident.number c.arm-item.result).pattern)) c.loop-arm.found.keys (case_view _ g.B.Ident.number c.arm-item.result).body) c.loop-arm.invariant.bound) c.loop-arm.invariant.found;
}

pub Expr::find_under-returns-clause-bound : goal.Expr::find_under-returns-clause-bound
Expr::find_under-returns-clause-bound g t c =
    let bound = c.args.bound.now.keys in
    let names = bound_in (pat_view _ g.B.Ident.number c.args.pattern.now) in
    c.truncate.ensures.keys
    ∙ ap (take c.len-outer.result) (c.in_ok-find_free.ensures.bound ∙ c.in_ok-bind.ensures)
    ∙ ap (λ n. take n (insert_all nat_eq bound names)) c.len-outer.ensures.len
    ∙ take-insert_all bound names
