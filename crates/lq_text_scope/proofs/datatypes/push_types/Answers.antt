use Rattle.std.proofs.Common.{sym, ap, ◌∙◌, ◌++◌, arith}
use Rattle.lq_text_tree.specs.TypeView.{type_exprs_items}
use Rattle.lq_text_scope.specs.Spots.{pending}
use Rattle.lq_text_scope.proofs.TypeRows.{pushed_before, pending_more, row_spots, all_pushed, none_left}
use Rattle.lq_text_scope.proofs.datatypes.push_types.Goals as goal
use Rattle.lq_text_scope.proofs.datatypes.push_types.Goals.{in-Some+in_ok-push, in_default}

pub loop-at-preserved : goal.loop-at-preserved
loop-at-preserved c =
    elim c.match-get.branch [
      | in-Some+in_ok-push w ↦
          pushed_before c.args.wrongly (type_exprs_items c.args.row.now) c.len-count.result c.loop-at.at w.in-Some.written.now _ _ _ c.loop-at-test.true (sym w.in-Some.ensures) c.loop-at.invariant
          (ap (λ v. pending v.items) w.left-is ∙ ap pending w.in_ok-push.ensures.items ∙ pending_more c.loop-at.left.items _)
      | in_default w ↦ absurd (none_left (type_exprs_items c.args.row.now) c.len-count.result c.loop-at.at c.len-count.ensures c.loop-at-test.true (sym w.in_default.ensures))
    ]

pub returns : goal.returns
returns c =
    all_pushed c.args.wrongly (type_exprs_items c.args.row.now) c.len-count.result c.loop-at.at _ _ (omega (arith, c.loop-at-test.false)) c.loop-at.invariant
    ∙ ap (λ l. l ++ pending c.args.left.now.items) (row_spots c.args.wrongly c.args.row.now)
