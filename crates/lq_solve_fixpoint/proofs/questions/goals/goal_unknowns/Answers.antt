use Rattle.std.proofs.Common.{◌∙◌, ◌∷◌, ◌++◌, [], ◌≤◌, ◌+◌, length, map, take, sym, ap, subst, arith}
use Rattle.std.proofs.lemmas.List.{length-map}
use Rattle.lq_refined_substitution.specs.Implications.Views.{environment_lists, implication_items, implication_view}
use Rattle.lq_solve_fixpoint.specs.Weakening.Index.{AreGoals}
use Rattle.lq_solve_fixpoint.proofs.QuestionsLemmas.Unknowns.{constraint_in, goals_all, goals_next}
use Rattle.lq_solve_fixpoint.proofs.questions.goals.goal_unknowns.Goals as goal

pub loop-at-preserved : goal.loop-at-preserved
loop-at-preserved c =
    let es = environment_lists c.args.implications.now in
    let is = implication_items c.args.implications.now in
    let at = c.loop-at.at in
    let i = c.in-Some.implication.now in
    let cs = map (constraint_in es) (take (at + 1) is) in
    subst (AreGoals cs) (sym (c.in_ok-push.ensures.items ∙ ap (λ g. c.loop-at.goals.items ++ g ∷ []) c.unknown_of.ensures)) (goals_next es is at i c.loop-at.goals.items c.in-Some.ensures c.loop-at.invariant)

pub returns : goal.returns
returns c =
    let es = environment_lists c.args.implications.now in
    let is = implication_items c.args.implications.now in
    let e = c.len-at-end.ensures.len in
    let f = length-map is (implication_view es) in
    let l = c.loop-at-test.false in
    let h : length is ≤ c.loop-at.at = omega arith in
    goals_all es is c.loop-at.at c.loop-at.goals.items h c.loop-at.invariant
