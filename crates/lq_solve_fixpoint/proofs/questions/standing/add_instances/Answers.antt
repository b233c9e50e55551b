use Rattle.std.proofs.Common.{map}
use Rattle.lq_refined_instances.specs.Views.{instances_view}
use Rattle.lq_logic_predicates.specs.PredView.{formula_of, pred_items}
use Rattle.lq_refined_substitution.specs.Substitution.Views.{subst_view}
use Rattle.lq_solve_fixpoint.specs.Weakening.Chosen.{chosen_in}
use Rattle.lq_solve_fixpoint.proofs.QuestionsLemmas.Picking.{nothing_added}
use Rattle.lq_solve_fixpoint.proofs.questions.standing.add_instances.Goals as goal

pub returns-in-None : goal.returns-in-None
returns-in-None c =
    nothing_added (instances_view c.args.instances.now) c.args.unknown (chosen_in c.args.chosen.now c.args.unknown) (subst_view c.args.by.now) (map formula_of (pred_items c.args.preds.now)) c.in-None.ensures
