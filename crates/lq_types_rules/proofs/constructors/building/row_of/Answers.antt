use Rattle.std.proofs.Common.{◌≡◌, ◌+◌, ◌-◌, ◌≤◌, [], ◌∷◌, ◌++◌, map, length, sym, ap, subst, ◌∙◌, arith, rules, append-nil}
use Rattle.lq_text_tree.specs.SimpleTypeView.{simple_type_view, simple_types_view, types_of}
use Rattle.lq_types_rules.specs.Constructors.Building.{by_nodes}
use Rattle.lq_types_rules.specs.Constructors.Tasks.{listed, enter, make, parts_of, done, Suffices, work}
use Rattle.lq_types_rules.specs.Constructors.Views.{task_view, tasks_view}
use Rattle.lq_types_rules.proofs.ConstructorsLemmas.Rows.{tasks_more}
use Rattle.lq_types_rules.proofs.ConstructorsLemmas.Placing.{more_same, more_then, each_listed}
use Rattle.lq_types_rules.proofs.ConstructorsLemmas.Working.{entered, less_work, suffices_entered, suffices_all, all_entered, all_is}
use Rattle.lq_types_rules.proofs.constructors.building.row_of.Goals as goal

pub loop-task-init : goal.loop-task-init
loop-task-init c =
    let row = listed (simple_types_view c.args.row.now) in
    let none = c.new-stack.ensures.items in
    let tasks : tasks_view c.enter_row.new.tasks.items ≡ map enter row = c.in_ok-enter_row.ensures ∙ ap (λ ts. map enter row ++ tasks_view ts) c.new-tasks.ensures.items ∙ append-nil (map enter row) in
    record {
      more = more_same c.args.types.now c.args.parameters c.requires;
      inside = λ k d h. absurd (let e : length c.new-stack.result.items ≡ 0 = ap length none in omega arith);
      enough = subst (λ ts. Suffices ts (length c.new-stack.result.items)) (sym tasks) (suffices_all row (length c.new-stack.result.items));
      is_done = λ t fits. ap (λ ts. done (by_nodes c.args.parameters t) ts (map t c.new-stack.result.items)) tasks ∙ ap (λ s. done (by_nodes c.args.parameters t) (map enter row) (map t s)) none
          ∙ all_entered (by_nodes c.args.parameters t) row [];
    }

pub loop-task-smaller-in-Continue-branch-3 : goal.loop-task-smaller-in-Continue-branch-3
loop-task-smaller-in-Continue-branch-3 c =
    let t = simple_type_view c.in-Enter.part.now in
    let rest = tasks_view c.pop.new.self.items in
    let before : tasks_view c.loop-task.tasks.items ≡ enter t ∷ rest =
    ap tasks_view c.in-Some.ensures.items ∙ tasks_more c.pop.new.self.items c.in-Some.task ∙ ap (λ k. task_view k ∷ rest) c.in-Enter.is in
    let after : tasks_view c.enter_parts.new.tasks.items ≡ map enter (parts_of t) ++ make t ∷ rest =
    c.in_ok-enter_parts-in-Enter.ensures ∙ ap (λ ts. map enter (parts_of t) ++ ts) (ap tasks_view c.in_ok-push-in-Enter.ensures.items ∙ tasks_more c.pop.new.self.items _) in
    let less = less_work t rest in let same = ap work before in let now = ap work after in
    omega (arith, less, same, now)

pub loop-task-preserved-in-Continue-branch-3 : goal.loop-task-preserved-in-Continue-branch-3
loop-task-preserved-in-Continue-branch-3 c =
    let t = simple_type_view c.in-Enter.part.now in
    let rest = tasks_view c.pop.new.self.items in
    let stack = c.loop-task.stack.items in
    let i = c.loop-task.invariant in
    let before : tasks_view c.loop-task.tasks.items ≡ enter t ∷ rest =
    ap tasks_view c.in-Some.ensures.items ∙ tasks_more c.pop.new.self.items c.in-Some.task ∙ ap (λ k. task_view k ∷ rest) c.in-Enter.is in
    let after : tasks_view c.enter_parts.new.tasks.items ≡ map enter (parts_of t) ++ make t ∷ rest =
    c.in_ok-enter_parts-in-Enter.ensures ∙ ap (λ ts. map enter (parts_of t) ++ ts) (ap tasks_view c.in_ok-push-in-Enter.ensures.items ∙ tasks_more c.pop.new.self.items _) in
    record {
      more = i.more;
      inside = i.inside;
      enough = subst (λ ts. Suffices ts (length stack)) (sym after) (suffices_entered t rest (length stack) (subst (λ ts. Suffices ts (length stack)) before i.enough));
      is_done = λ u fits.
          let by = by_nodes c.args.parameters u in
          ap (λ ts. done by ts (map u stack)) after ∙ entered by t rest (map u stack) ∙ sym (ap (λ ts. done by ts (map u stack)) before) ∙ i.is_done u fits;
    }

pub loop-task-preserved : goal.loop-task-preserved
loop-task-preserved c =
    let t = simple_type_view c.in-Make.part.now in
    let rest = tasks_view c.pop.new.self.items in
    let stack = c.loop-task.stack.items in
    let later = c.make.new.stack.items in
    let i = c.loop-task.invariant in
    let m = c.in_ok-make-in-Make.ensures in
    let before : tasks_view c.loop-task.tasks.items ≡ make t ∷ rest =
    ap tasks_view c.in-Some.ensures.items ∙ tasks_more c.pop.new.self.items c.in-Some.task ∙ ap (λ k. task_view k ∷ rest) c.in-Make.is in
    let enough : Suffices (make t ∷ rest) (length stack) = subst (λ ts. Suffices ts (length stack)) before i.enough in
    let e : length stack - length (parts_of t) + 1 ≡ length later = (let x : length (parts_of t) ≤ length stack = enough.0 in let y : length later + length (parts_of t) ≡ length stack + 1 = m.long in omega arith) in
    record {
      more = more_then c.args.types.now c.loop-task.types c.make.new.types c.args.parameters i.more m.more;
      inside = m.inside;
      enough = subst (Suffices rest) e enough.1;
      is_done = λ u fits.
          let by = by_nodes c.args.parameters u in
          ap (done by rest) (m.made u fits) ∙ sym (ap (λ ts. done by ts (map u stack)) before) ∙ i.is_done u (m.more.fits u fits);
    }

pub returns : goal.returns
returns c =
    let i = c.loop-task.invariant in
    let none : c.loop-task.tasks.items ≡ [] = search rules in
    record {
      more = i.more;
      inside = i.inside;
      row_is = λ t fits.
          let by = by_nodes c.args.parameters t in
          let row = simple_types_view c.args.row.now in
          each_listed t c.loop-task.stack.items ∙ ap types_of (sym (ap (λ ts. done by (tasks_view ts) (map t c.loop-task.stack.items)) none) ∙ i.is_done t fits) ∙ all_is by row;
    }
