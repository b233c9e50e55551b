use Rattle.std.proofs.Common.{◌≡◌, ◌∙◌, ◌≤◌, ◌+◌, ◌∷◌, ◌++◌, [], Bool, true, false, length, sym, subst, arith}
use Rattle.lq_refined_instances.specs.Views.{list_view}
use Rattle.lq_logic_points.specs.Values.{as_point}
use Rattle.lq_refined_substitution.specs.Substitution.Views.{subst_view}
use Rattle.lq_solve_fixpoint.specs.Weakening.Chosen.{chosen_in}
use Rattle.lq_solve_strongest.proofs.WeakenLemmas.Those.{AreThose, Goes, those_added, those_kept, those_refuted}
use Rattle.lq_solve_strongest.proofs.weaken.refuting.refuted.Goals as goal
use Rattle.lq_solve_strongest.proofs.weaken.refuting.refuted.Goals.{then-goes+in_ok-push, else-goes}

pub loop-at-preserved : goal.loop-at-preserved
loop-at-preserved c =
    let P = Goes (chosen_in c.args.chosen.now c.args.unknown) (as_point c.args.point.now) (subst_view c.args.by.now) (list_view c.args.list.now) in
    let at = c.loop-at.at in
    let before = c.loop-at.numbers.items in (
      c.in_ok-goes.ensures.same ∙ c.loop-at.invariant.0,
      elim c.if-goes.branch [
        | then-goes+in_ok-push w ↦
            let e : c.if-goes.numbers.items ≡ before ++ at ∷ [] = cc (w.numbers-is, w.in_ok-push.ensures.items) in
            subst (AreThose P (at + 1)) (sym e) (those_added P at before c.loop-at.invariant.1 (c.in_ok-goes.ensures.goes.0 w.if-goes.true))
        | else-goes w ↦
            let e : c.if-goes.numbers.items ≡ before = cc (w.numbers-is) in
            subst (AreThose P (at + 1)) (sym e) (those_kept P at before c.loop-at.invariant.1 (λ p. different w.if-goes.false (c.in_ok-goes.ensures.goes.1 p)))
      ],
    )
  where
    different : {b : Bool} → b ≡ false → b ≡ true → ⊥
    different e f = cc

pub returns : goal.returns
returns c =
    let l = list_view c.args.list.now in
    let all : length l ≤ c.loop-at.at = omega arith in
    those_refuted (chosen_in c.args.chosen.now c.args.unknown) (as_point c.args.point.now) (subst_view c.args.by.now) l c.loop-at.at c.loop-at.numbers.items all c.loop-at.invariant.1
