use Rattle.std.proofs.Common.{Bool, cond, [], ◌∷◌, ◌++◌, map, ap, ◌∙◌, arith}
use Rattle.std.proofs.lemmas.List.{take_all}
use Rattle.lq_refined_instances.specs.Views.{list_view}
use Rattle.lq_refined_types.specs.Parts.Flowing.{picked}
use Rattle.lq_logic_predicates.specs.PredView.{formula_of, pred_items}
use Rattle.lq_solve_fixpoint.specs.Weakening.Chosen.{chosen_in}
use Rattle.lq_top_answers.proofs.InferredLemmas.Picking.{picked_more}
use Rattle.lq_top_answers.proofs.inferred.assigning.chosen_of.Goals as goal

pub loop-at-preserved : goal.loop-at-preserved
loop-at-preserved c =
    let f = chosen_in c.args.chosen.now c.args.unknown in
    let p = formula_of c.in-Some.instance.now in
    let old = map formula_of (pred_items c.loop-at.preds) in
    picked_more f (list_view c.args.list.now) c.loop-at.at p old _ c.in-Some.ensures c.loop-at.invariant
    (c.in_ok-add_if.ensures ∙ ap (λ (b : Bool). old ++ cond b (p ∷ []) []) c.has.ensures)

pub returns : goal.returns
returns c =
    let f = chosen_in c.args.chosen.now c.args.unknown in
    c.loop-at.invariant ∙ ap (picked f 0) (take_all c.loop-at.at (list_view c.args.list.now) (omega arith))
