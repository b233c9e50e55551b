use Rattle.std.specs.Prelude.{slice_index_or}
use Rattle.std.proofs.Common.{◌≡◌, List, [], ◌∷◌, ◌++◌, ap, ◌∙◌, arith}
use Rattle.std.proofs.lemmas.List.{take_all}
use Rattle.lq_top_answers.specs.Assignment.Views.{instance_lists}
use Rattle.lq_refined_instances.specs.Views.{instances_view, list_view}
use Rattle.lq_logic_predicates.specs.Formula.{Formula}
use Rattle.lq_solve_fixpoint.specs.Weakening.Chosen.{chosen_in}
use Rattle.lq_top_answers.specs.Inferred.Listed.{picked_from}
use Rattle.lq_top_answers.proofs.InferredLemmas.Picking.{picked_at, unknown_more}
use Rattle.lq_top_answers.proofs.inferred.assigning.assignment_of.Goals as goal

pub loop-unknown-preserved : goal.loop-unknown-preserved
loop-unknown-preserved c =
    let C = chosen_in c.args.chosen.now in
    let old = instance_lists c.loop-unknown.assignment in
    unknown_more C (instances_view c.args.instances.now) c.loop-unknown.unknown (list_view c.in-Some.list.now) old _ c.in-Some.ensures c.loop-unknown.invariant
    (c.in_ok-push.ensures.ok ∙ ap (λ (l : List Formula). old ++ l ∷ []) c.in_ok-chosen_of.ensures)

pub returns : goal.returns
returns c =
    let C = chosen_in c.args.chosen.now in
    let all = instances_view c.args.instances.now in
    let e : instance_lists c.loop-unknown.assignment ≡ picked_from C 0 all = c.loop-unknown.invariant ∙ ap (picked_from C 0) (take_all c.loop-unknown.unknown all (omega arith)) in
    λ i u. (ap (λ (l : List (List Formula)). slice_index_or l u []) e ∙ picked_at C 0 u u all (omega arith)) i
