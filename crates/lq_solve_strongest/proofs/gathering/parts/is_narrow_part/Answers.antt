use Rattle.std.proofs.Common.{All, IfOk, IsTrue, [], map, slice_index_or, subst, sym}
use Rattle.lq_refined_instances.specs.Views.{instances_view, list_view}
use Rattle.lq_solve_strongest.specs.SmallForms.Narrow.{IsNarrow}
use Rattle.lq_refined_types.specs.Parts.Assignment.{part_under}
use Rattle.lq_refined_types.specs.Parts.Substitution.{formula_by}
use Rattle.lq_logic_predicates.specs.PredView.{formula_of}
use Rattle.lq_solve_fixpoint.specs.Questions.Assigned.{instances_in}
use Rattle.lq_refined_substitution.specs.Substitution.Views.{part_view, subst_view}
use Rattle.lq_refined_substitution.specs.declared.substitution.parts.Part as code
use Rattle.lq_solve_strongest.proofs.GatheringLemmas.Narrowing.{if_true, instances_none, instances_some, one_narrow}
use Rattle.lq_solve_strongest.proofs.gathering.parts.is_narrow_part.Goals as goal

pub returns-in-Known : goal.returns-in-Known
returns-in-Known c = λ b.
    subst (λ (q : code.Part). All IsNarrow (part_under (instances_in c.args.instances.now) (part_view q))) (sym c.in-Known.is) (one_narrow (formula_of c.in-Known.pred) (c.is_narrow.ensures b))

pub returns-in-Some : goal.returns-in-Some
returns-in-Some c =
    let f = formula_by (subst_view c.in-Unknown.by) in
    subst (λ (q : code.Part). IfOk c.are_narrow_by.result (λ b. IsTrue b → All IsNarrow (part_under (instances_in c.args.instances.now) (part_view q)))) (sym c.in-Unknown.is)
    (if_true c.are_narrow_by.result (All IsNarrow (map f (list_view c.in-Some.list.now))) (All IsNarrow (map f (slice_index_or (instances_view c.args.instances.now) c.in-Unknown.unknown [])))
    (instances_some (instances_view c.args.instances.now) c.in-Unknown.unknown f (list_view c.in-Some.list.now) c.in-Some.ensures) c.are_narrow_by.ensures)

pub returns-in-None : goal.returns-in-None
returns-in-None c = λ _.
    subst (λ (q : code.Part). All IsNarrow (part_under (instances_in c.args.instances.now) (part_view q))) (sym c.in-Unknown.is)
    (instances_none (instances_view c.args.instances.now) c.in-Unknown.unknown (formula_by (subst_view c.in-Unknown.by)) c.in-None.ensures)
