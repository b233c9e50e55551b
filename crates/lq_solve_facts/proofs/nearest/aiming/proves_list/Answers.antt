use Rattle.std.proofs.Common.{◌≡◌, ◌≤◌, ◌∙◌, refl, true, sym, subst, arith, length}
use Rattle.lq_refined_instances.specs.Views.{list_view}
use Rattle.lq_logic_predicates.specs.PredView.{formula_of}
use Rattle.lq_refined_substitution.specs.Substitution.Views.{subst_view}
use Rattle.lq_solve_fixpoint.specs.Weakening.Chosen.{chosen_in}
use Rattle.lq_solve_facts.proofs.FactsLemmas.Holding.{keeps_self, keeps_then}
use Rattle.lq_solve_facts.proofs.NearestLemmas.Meeting.{none_against, none_next, none_past}
use Rattle.lq_solve_facts.proofs.nearest.aiming.proves_list.Goals as goal

pub loop-at-init : goal.loop-at-init
loop-at-init c = record { kept = λ p h. h; keeps = keeps_self _; same = refl; none = λ p h i q w. absurd (omega (arith, w)) }

pub loop-at-preserved : goal.loop-at-preserved
loop-at-preserved c =
    let before = c.loop-at.invariant in record {
      kept = λ p h. c.in_ok-proved.ensures.kept p (before.kept p h);
      keeps = keeps_then _ _ _ before.keeps c.in_ok-proved.ensures.keeps;
      same = c.in_ok-proved.ensures.same ∙ before.same;
      none = λ p h. none_next p (chosen_in c.args.chosen.now c.args.unknown) (subst_view c.args.by.now) c.loop-at.at (list_view c.args.list.now) (formula_of c.in-Some.instance.now) c.in-Some.ensures
          (before.none p h) (λ t. c.in_ok-proved.ensures.proved c.if-not-proved.false p (before.kept p h) (subst (λ b. b ≡ true) (sym c.has-is_chosen.ensures) t));
    }

pub returns-clause-proved : goal.returns-clause-proved
returns-clause-proved c = λ _ p h.
    let past : length (list_view c.args.list.now) ≤ c.loop-at.at = omega arith in
    none_against p (chosen_in c.args.chosen.now c.args.unknown) (subst_view c.args.by.now) (list_view c.args.list.now)
    (none_past p (chosen_in c.args.chosen.now c.args.unknown) (subst_view c.args.by.now) c.loop-at.at (list_view c.args.list.now) past (c.loop-at.invariant.none p h))

pub returns-in_err-proved-clause-keeps : goal.returns-in_err-proved-clause-keeps
returns-in_err-proved-clause-keeps c = keeps_then _ _ _ c.loop-at.invariant.keeps c.in_err-proved.ensures.keeps

pub returns-then-not-proved-clause-keeps : goal.returns-then-not-proved-clause-keeps
returns-then-not-proved-clause-keeps c = keeps_then _ _ _ c.loop-at.invariant.keeps c.in_ok-proved.ensures.keeps

pub returns-in_err-proved-clause-same : goal.returns-in_err-proved-clause-same
returns-in_err-proved-clause-same c = c.in_err-proved.ensures.same ∙ c.loop-at.invariant.same

pub returns-then-not-proved-clause-same : goal.returns-then-not-proved-clause-same
returns-then-not-proved-clause-same c = c.in_ok-proved.ensures.same ∙ c.loop-at.invariant.same
