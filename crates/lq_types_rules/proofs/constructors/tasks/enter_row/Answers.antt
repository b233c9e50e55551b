use Rattle.std.proofs.Common.{sym, ap, ◌∙◌, arith}
use Rattle.lq_text_tree.specs.SimpleTypeView.{simple_types_items}
use Rattle.lq_types_rules.specs.Constructors.Views.{tasks_view}
use Rattle.lq_types_rules.proofs.ConstructorsLemmas.Rows.{pushed_before, tasks_more, all_pushed, none_left}
use Rattle.lq_types_rules.proofs.constructors.tasks.enter_row.Goals as goal
use Rattle.lq_types_rules.proofs.constructors.tasks.enter_row.Goals.{in-Some+in_ok-push, in_default}

pub loop-at-preserved : goal.loop-at-preserved
loop-at-preserved c =
    elim c.match-get.branch [
      | in-Some+in_ok-push w ↦
          pushed_before (simple_types_items c.args.row.now) c.len-count.result c.loop-at.at w.in-Some.part.now _ _ _ c.loop-at-test.true (sym w.in-Some.ensures) c.loop-at.invariant
          (ap (λ v. tasks_view v.items) w.tasks-is ∙ ap tasks_view w.in_ok-push.ensures.items ∙ tasks_more c.loop-at.tasks.items _)
      | in_default w ↦ absurd (none_left (simple_types_items c.args.row.now) c.len-count.result c.loop-at.at c.len-count.ensures c.loop-at-test.true (sym w.in_default.ensures))
    ]

pub returns : goal.returns
returns c = all_pushed c.args.row.now c.len-count.result c.loop-at.at _ _ (omega (arith, c.loop-at-test.false)) c.loop-at.invariant
