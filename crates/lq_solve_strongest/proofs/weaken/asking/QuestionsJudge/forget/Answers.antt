use Rattle.lq_refined_substitution.specs.Implications.Views.{environment_lists}
use Rattle.lq_solve_facts.proofs.StoreLemmas.Ways.{alike_assigned}
use Rattle.lq_refined_types.specs.Parts.Flowing.{assigned}
use Rattle.lq_solve_fixpoint.specs.Questions.Assigned.{constraints_of, instances_in}
use Rattle.lq_solve_strongest.proofs.weaken.asking.QuestionsJudge.forget.Goals as goal

pub returns-clause-kept : goal.returns-clause-kept
returns-clause-kept c = λ before after a k.
    let I = instances_in c.args.self.now.instances.now in
    let es = environment_lists c.args.self.now.implications.now in
    (c.forget.ensures.kept (assigned I before) (assigned I after) es (alike_assigned I c.args.unknown before after a) k.0, c.forget.ensures.stored I es (constraints_of c.args.self.now.implications.now) k.1)
