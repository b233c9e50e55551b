use Rattle.std.proofs.Common.{◌≡◌, ◌++◌, map, subst}
use Rattle.lq_refined_instances.specs.Views.{list_view}
use Rattle.lq_logic_predicates.specs.PredView.{formula_of, pred_items}
use Rattle.lq_refined_substitution.specs.Substitution.Views.{subst_view}
use Rattle.lq_solve_fixpoint.specs.Weakening.Chosen.{chosen_in}
use Rattle.lq_solve_fixpoint.proofs.QuestionsLemmas.Picking.{added_next, if_chosen}
use Rattle.lq_solve_fixpoint.proofs.questions.standing.add_list.Goals as goal

pub loop-at-preserved : goal.loop-at-preserved
loop-at-preserved c =
    let σ = subst_view c.args.by.now in
    let q = formula_of c.in-Some.instance.now in
    let before = map formula_of (pred_items c.args.preds.now) in
    let mid = map formula_of (pred_items c.loop-at.preds) in
    let after = map formula_of (pred_items c.add_chosen.new.preds) in
    added_next (chosen_in c.args.chosen.now c.args.unknown) σ c.loop-at.at (list_view c.args.list.now) q before mid after c.in-Some.ensures c.loop-at.invariant (subst (λ b. after ≡ mid ++ if_chosen σ b q) c.has.ensures c.in_ok-add_chosen.ensures)
