use Rattle.std.proofs.Common.{◌++◌, ◌+◌, drop, reverse, sym, ap, ◌∙◌, arith}
use Rattle.lq_base_names.specs.declared.name.Name.{Name}
use Rattle.lq_text_tree.specs.TreeView.{arms_items, case_view, cases_of, cases_view}
use Rattle.lq_text_walk.specs.Walk.Shape.{listed_cases}
use Rattle.lq_text_resolve.specs.Binding.Machine.{arms_from}
use Rattle.lq_text_resolve.specs.Binding.Views.{arms_in, trees_in}
use Rattle.lq_text_resolve.proofs.BindingLemmas.Building.{all_arms, arm_here, arms_count, arms_whole, one_arm}
use Rattle.lq_text_resolve.proofs.BindingLemmas.PatternRows.{past}
use Rattle.lq_text_resolve.proofs.binding.binding.arms_with.Goals as goal
use Rattle.lq_text_resolve.proofs.binding.binding.arms_with.Goals.{in-Some+in_ok-push_arm, in_default}

pub loop-at-preserved : goal.loop-at-preserved
loop-at-preserved c =
    let arms = listed_cases (cases_view Name (λ n. n.0) c.args.arms.now) in
    let at = c.loop-at.at in
    let starts = reverse c.loop-at.starts.items in
    let bodies = reverse (trees_in c.loop-at.bodies.items) in
    elim c.match-get.branch [
      | in-Some+in_ok-push_arm w ↦
          let a = w.in-Some.arm.now in
          let here = arm_here c.args.arms.now at a (sym w.in-Some.ensures) in
          one_arm c.args.place (case_view Name (λ n. n.0) a) (drop (at + 1) arms) (arms_in c.loop-at.made) (arms_in c.match-get.made) _ starts (reverse c.match-get.starts.items)
          bodies (reverse (trees_in c.match-get.bodies.items)) w.pop_start-start.result _ w.pop_start-start.ensures.top (ap (λ v. reverse v.items) w.starts-is ∙ w.pop_start-start.ensures.below)
          w.pop_body-body.ensures.top (ap (λ v. reverse (trees_in v.items)) w.bodies-is ∙ w.pop_body-body.ensures.below) (ap arms_in w.made-is ∙ w.in_ok-push_arm.ensures)
          (ap (λ l. arms_in c.loop-at.made ++ arms_from c.args.place l starts bodies) (sym here) ∙ c.loop-at.invariant)
      | in_default w ↦
          let far = past (arms_items Name c.args.arms.now) at (sym w.in_default.ensures) in
          absurd (omega (arith, far, c.loop-at-test.true, c.len-at-end.ensures))
    ]

pub returns : goal.returns
returns c =
    let arms = listed_cases (cases_view Name (λ n. n.0) c.args.arms.now) in
    let count = arms_count c.args.arms.now in
    arms_whole c.loop-at.made
    ∙ ap cases_of (all_arms c.args.place arms c.loop-at.at (arms_in c.loop-at.made) _ (reverse c.loop-at.starts.items) (reverse (trees_in c.loop-at.bodies.items))
    (omega (arith, count, c.loop-at-test.false, c.len-at-end.ensures)) c.loop-at.invariant)
