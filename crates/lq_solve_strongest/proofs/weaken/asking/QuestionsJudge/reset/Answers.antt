use Rattle.lq_refined_substitution.specs.Implications.Views.{environment_lists}
use Rattle.lq_refined_types.specs.Parts.Flowing.{assigned}
use Rattle.lq_solve_fixpoint.specs.Questions.Assigned.{constraints_of, instances_in}
use Rattle.lq_solve_strongest.proofs.weaken.asking.QuestionsJudge.reset.Goals as goal

pub returns-clause-forgotten : goal.returns-clause-forgotten
returns-clause-forgotten c = λ chosen.
    let I = instances_in c.args.self.now.instances.now in
    let es = environment_lists c.args.self.now.implications.now in
    (c.clear.ensures.kept (assigned I chosen) es, c.clear.ensures.stored I es (constraints_of c.args.self.now.implications.now))
