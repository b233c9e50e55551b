use Rattle.std.proofs.Common.{◌≡◌, ◌∷◌, ◌++◌, map, sym, ap, ◌∙◌, arith}
use Rattle.lq_text_tree.specs.Items.{parameter_view}
use Rattle.lq_text_tree.specs.TypeView.{type_view}
use Rattle.lq_text_datatypes.specs.Tasks.{done, enter, make, parts_of, work}
use Rattle.lq_text_datatypes.specs.Views.{stack_view, task_view, tasks_view}
use Rattle.lq_text_datatypes.proofs.Rows.{tasks_more}
use Rattle.lq_text_datatypes.proofs.Working.{entered, less_work}
use Rattle.lq_text_datatypes.proofs.simple.written.Goals as goal

pub loop-task-smaller-in-Continue-branch-3 : goal.loop-task-smaller-in-Continue-branch-3
loop-task-smaller-in-Continue-branch-3 c =
    let t = type_view c.in-Enter.part.now in
    let rest = tasks_view c.pop.new.self.items in
    let before : tasks_view c.loop-task.tasks.items ≡ enter t ∷ rest =
    ap tasks_view c.in-Some.ensures.items ∙ tasks_more c.pop.new.self.items c.in-Some.task ∙ ap (λ k. task_view k ∷ rest) c.in-Enter.is in
    let after : tasks_view c.enter_parts.new.tasks.items ≡ map enter (parts_of t) ++ make t ∷ rest =
    c.in_ok-enter_parts-in-Enter.ensures ∙ ap (λ ts. map enter (parts_of t) ++ ts) (ap tasks_view c.in_ok-push-in-Enter.ensures.items ∙ tasks_more c.pop.new.self.items _) in
    let less = less_work t rest in let same = ap work before in let now = ap work after in
    omega (arith, less, same, now)

pub loop-task-preserved-in-Continue-branch-3 : goal.loop-task-preserved-in-Continue-branch-3
loop-task-preserved-in-Continue-branch-3 c =
    let t = type_view c.in-Enter.part.now in
    let rest = tasks_view c.pop.new.self.items in
    let ps = map parameter_view c.args.parameters.now in
    let vs = stack_view c.loop-task.types.items in
    let before : tasks_view c.loop-task.tasks.items ≡ enter t ∷ rest =
    ap tasks_view c.in-Some.ensures.items ∙ tasks_more c.pop.new.self.items c.in-Some.task ∙ ap (λ k. task_view k ∷ rest) c.in-Enter.is in
    let after : tasks_view c.enter_parts.new.tasks.items ≡ map enter (parts_of t) ++ make t ∷ rest =
    c.in_ok-enter_parts-in-Enter.ensures ∙ ap (λ ts. map enter (parts_of t) ++ ts) (ap tasks_view c.in_ok-push-in-Enter.ensures.items ∙ tasks_more c.pop.new.self.items _) in
    ap (λ ts. done ps ts vs) after ∙ entered ps t rest vs ∙ sym (ap (λ ts. done ps ts vs) before) ∙ c.loop-task.invariant
