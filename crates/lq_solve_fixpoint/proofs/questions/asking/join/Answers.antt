use Rattle.std.proofs.Common.{ap, map, ◌∙◌}
use Rattle.lq_refined_types.specs.Parts.Assignment.{joined}
use Rattle.lq_logic_predicates.specs.Formula.{conjunction}
use Rattle.lq_logic_predicates.specs.PredView.{formula_of}
use Rattle.lq_solve_fixpoint.proofs.QuestionsLemmas.Joining.{joined_next, joined_whole}
use Rattle.lq_solve_fixpoint.proofs.questions.asking.join.Goals as goal

pub loop-pred-preserved : goal.loop-pred-preserved
loop-pred-preserved c =
    joined_next formula_of (formula_of c.in_ok-made.made) (formula_of c.loop-pred.made) (formula_of c.in_ok-made-2.made) c.args.rest.now c.loop-pred.pred-index c.pred-item.result c.loop-pred-test.true c.loop-pred.invariant (c.in_ok-made-2.ensures ∙ ap (λ x. conjunction (formula_of c.loop-pred.made) (formula_of x)) c.pred-item.is)

pub returns : goal.returns
returns c =
    joined_whole formula_of (formula_of c.in_ok-made.made) (formula_of c.loop-pred.made) c.args.rest.now c.loop-pred.pred-index c.loop-pred-test.false c.loop-pred.invariant
    ∙ ap (λ p. joined p (map formula_of c.args.rest.now)) c.in_ok-made.ensures
