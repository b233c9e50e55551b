use Rattle.std.proofs.Common.{[], IfOk, map, sym, ap, subst, ◌∙◌}
use Rattle.lq_refined_instances.specs.Views.{instances_view, list_view}
use Rattle.lq_refined_types.specs.Parts.Assignment.{all_joined}
use Rattle.lq_refined_types.specs.Parts.Flowing.{picked}
use Rattle.lq_refined_types.specs.Parts.Substitution.{formula_by}
use Rattle.lq_logic_points.specs.Values.{as_point}
use Rattle.lq_logic_predicates.specs.PredView.{implication_of}
use Rattle.lq_solve_fixpoint.specs.Questions.Assigned.{instances_in}
use Rattle.lq_refined_substitution.specs.Substitution.Views.{subst_view}
use Rattle.lq_solve_fixpoint.specs.Weakening.Chosen.{chosen_in}
use Rattle.lq_solve_fixpoint.specs.Weakening.Judging.{AreRefuted}
use Rattle.lq_solve_strongest.proofs.WeakenLemmas.Conjuncts.{instances_askable}
use Rattle.lq_solve_strongest.proofs.WeakenLemmas.Counting.{list_is, none_is}
use Rattle.lq_solve_strongest.proofs.WeakenLemmas.Those.{none_refuted}
use Rattle.lq_solve_strongest.proofs.weaken.asking.refuted_of.Goals as goal

pub refuted-requires-clause-askable : goal.refuted-requires-clause-askable
refuted-requires-clause-askable c =
    let σ = subst_view c.args.by.now in
    let u = c.args.unknown in
    let chosen = chosen_in c.args.chosen.now u in
    let l = list_view c.in-Some.list.now in
    instances_askable (implication_of c.args.closed.now) c.args.point.now chosen σ l
    (c.requires.goal ∙ ap (λ x. all_joined (map (formula_by σ) (picked chosen 0 x))) (list_is (instances_view c.args.instances.now) u l c.in-Some.ensures))
    c.requires.gathers c.requires.readable.table c.requires.readable.evaluates

pub returns-in-None : goal.returns-in-None
returns-in-None c =
    let σ = subst_view c.args.by.now in
    let u = c.args.unknown in
    let chosen = chosen_in c.args.chosen.now u in
    let p = as_point c.args.point.now in
    subst (λ ns. AreRefuted chosen p σ (instances_in c.args.instances.now u) ns) (sym c.new-none.ensures.items)
    (subst (λ l. AreRefuted chosen p σ l []) (sym (none_is (instances_view c.args.instances.now) u c.in-None.ensures)) (none_refuted chosen p σ))

pub returns-in_ok-table-in-Some : goal.returns-in_ok-table-in-Some
returns-in_ok-table-in-Some c =
    let σ = subst_view c.args.by.now in
    let u = c.args.unknown in
    let chosen = chosen_in c.args.chosen.now u in
    let p = as_point c.args.point.now in
    subst (λ l. IfOk c.refuted.result (λ ns. AreRefuted chosen p σ l ns.items)) (sym (list_is (instances_view c.args.instances.now) u (list_view c.in-Some.list.now) c.in-Some.ensures)) c.refuted.ensures
