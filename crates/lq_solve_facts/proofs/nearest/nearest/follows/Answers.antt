use Rattle.lq_refined_substitution.specs.Implications.Views.{environment_lists, hypotheses_left, implication_items}
use Rattle.lq_solve_fixpoint.specs.Questions.Assigned.{instances_in}
use Rattle.lq_solve_fixpoint.specs.Weakening.Chosen.{chosen_in}
use Rattle.lq_solve_facts.proofs.NearestLemmas.Meeting.{follows_there, if_true}
use Rattle.lq_solve_facts.proofs.nearest.nearest.follows.Goals as goal

pub returns : goal.returns
returns c =
    if_true c.follows_from.result _ _
    (λ f. follows_there (instances_in c.args.instances.now) (chosen_in c.args.chosen.now) (environment_lists c.args.implications.now) (implication_items c.args.implications.now) c.args.at
    c.in-Some.implication.now (hypotheses_left c.hypotheses-left.result) c.in-Some.ensures c.hypotheses-left.ensures (λ p. f p (c.in_ok-known.ensures p)))
    c.follows_from.ensures
