use Rattle.std.proofs.Common.{◌≡◌, ◌∷◌, ◌++◌, map, sym, ap, ◌∙◌, arith}
use Rattle.lq_text_tree.specs.PredView.{pred_view}
use Rattle.lq_text_qualifiers.specs.Faults.Predicates.{form_of}
use Rattle.lq_text_qualifiers.specs.Sorting.Tasks.{terms_done, enter, make, term_parts, work}
use Rattle.lq_text_qualifiers.specs.Sorting.Views.{terms_view, setting_view, task_view, tasks_view}
use Rattle.lq_text_qualifiers.proofs.SortingLemmas.Working.{term_entered, term_less, tasks_more}
use Rattle.lq_text_qualifiers.proofs.sorting.terms.term_of.Goals as goal

pub loop-task-smaller-in-Continue-branch-3 : goal.loop-task-smaller-in-Continue-branch-3
loop-task-smaller-in-Continue-branch-3 c =
    let t = pred_view c.in-Enter.part.now in
    let rest = tasks_view c.pop.new.self.items in
    let before : tasks_view c.loop-task.tasks.items ≡ enter t ∷ rest =
    ap tasks_view c.in-Some.ensures.items ∙ tasks_more c.pop.new.self.items c.in-Some.task ∙ ap (λ k. task_view k ∷ rest) c.in-Enter.is in
    let after : tasks_view c.enter_parts.new.tasks.items ≡ map enter (term_parts (form_of t)) ++ make t ∷ rest =
    c.in_ok-enter_parts-in-Enter.ensures ∙ ap (λ ts. map enter (term_parts (form_of t)) ++ ts) (ap tasks_view c.in_ok-push-in-Enter.ensures.items ∙ tasks_more c.pop.new.self.items _) in
    let less = term_less t rest in let same = ap work before in let now = ap work after in
    omega (arith, less, same, now)

pub loop-task-preserved-in-Continue-branch-3 : goal.loop-task-preserved-in-Continue-branch-3
loop-task-preserved-in-Continue-branch-3 c =
    let t = pred_view c.in-Enter.part.now in
    let rest = tasks_view c.pop.new.self.items in
    let s = setting_view c.args.setting.now in
    let vs = terms_view c.loop-task.terms.items in
    let before : tasks_view c.loop-task.tasks.items ≡ enter t ∷ rest =
    ap tasks_view c.in-Some.ensures.items ∙ tasks_more c.pop.new.self.items c.in-Some.task ∙ ap (λ k. task_view k ∷ rest) c.in-Enter.is in
    let after : tasks_view c.enter_parts.new.tasks.items ≡ map enter (term_parts (form_of t)) ++ make t ∷ rest =
    c.in_ok-enter_parts-in-Enter.ensures ∙ ap (λ ts. map enter (term_parts (form_of t)) ++ ts) (ap tasks_view c.in_ok-push-in-Enter.ensures.items ∙ tasks_more c.pop.new.self.items _) in
    ap (λ ts. terms_done s ts vs) after ∙ term_entered s t rest vs ∙ sym (ap (λ ts. terms_done s ts vs) before) ∙ c.loop-task.invariant
