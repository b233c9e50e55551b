use Rattle.std.proofs.Common.{◌≤◌, arith, length}
use Rattle.std.proofs.lemmas.List.Elements.{All-nil}
use Rattle.lq_refined_instances.specs.Views.{list_view}
use Rattle.lq_solve_strongest.specs.SmallForms.Narrow.{IsNarrow}
use Rattle.lq_refined_types.specs.Parts.Substitution.{formula_by}
use Rattle.lq_logic_predicates.specs.PredView.{formula_of}
use Rattle.lq_refined_substitution.specs.Substitution.Views.{subst_view}
use Rattle.lq_solve_strongest.proofs.GatheringLemmas.Narrowing.{instances_all, instances_next}
use Rattle.lq_solve_strongest.proofs.gathering.parts.are_narrow_by.Goals as goal

pub loop-at-init : goal.loop-at-init
loop-at-init c = All-nil IsNarrow

pub loop-at-preserved : goal.loop-at-preserved
loop-at-preserved c =
    instances_next (formula_by (subst_view c.args.by.now)) (list_view c.args.list.now) c.loop-at.at (formula_of c.in-Some.instance.now) c.in-Some.ensures c.loop-at.invariant (c.in_ok-narrow.ensures c.if-not-narrow.false)

pub returns : goal.returns
returns c = λ _.
    let past : length (list_view c.args.list.now) ≤ c.loop-at.at = omega arith in
    instances_all (formula_by (subst_view c.args.by.now)) (list_view c.args.list.now) c.loop-at.at past c.loop-at.invariant
