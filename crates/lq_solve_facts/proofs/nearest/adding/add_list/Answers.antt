use Rattle.std.proofs.Common.{◌≡◌, ◌≤◌, ◌+◌, ◌-◌, arith, length, sym, true, subst}
use Rattle.std.proofs.lemmas.Option.{slice_get_within}
use Rattle.lq_refined_instances.specs.Views.{list_view}
use Rattle.lq_logic_predicates.specs.PredView.{formula_of}
use Rattle.lq_logic_predicates.specs.TableView.{terms_of}
use Rattle.lq_refined_substitution.specs.Substitution.Views.{subst_view}
use Rattle.lq_solve_fixpoint.specs.Weakening.Chosen.{chosen_in}
use Rattle.lq_solve_facts.proofs.FactsLemmas.Holding.{agrees_before, keeps_self, keeps_then}
use Rattle.lq_solve_facts.proofs.NearestLemmas.Meeting.{ChosenFrom, IsMetBy, all_chosen, chosen_is_met, from_first, from_next}
use Rattle.lq_solve_facts.proofs.nearest.adding.add_list.Goals as goal

pub loop-at-init : goal.loop-at-init
loop-at-init c = record {
  held = λ p h m. h;
  keeps = keeps_self _;
  read = λ v p a m. (m, λ i q w t e. let x = slice_get_within (list_view c.args.list.now) i q (sym e) in absurd (omega (arith, w, x)));
}

pub loop-at-preserved : goal.loop-at-preserved
loop-at-preserved c = record {
  held = λ p h m.
      c.in_ok-add_instance.ensures.held p (c.loop-at.invariant.held p h m)
      (λ t. chosen_is_met p (chosen_in c.args.chosen.now c.args.unknown) (subst_view c.args.by.now) (list_view c.args.list.now) m (c.loop-at.at - 1) (formula_of c.in-Some.instance.now) (subst (λ b. b ≡ true) c.has.ensures t) c.in-Some.ensures);
  keeps = keeps_then _ _ _ c.loop-at.invariant.keeps c.in_ok-add_instance.ensures.keeps;
  read = λ v p a m.
      let now = c.in_ok-add_instance.ensures.read v p a m in
      let before = c.loop-at.invariant.read v p (agrees_before (terms_of c.loop-at.known.table) (terms_of c.add_instance.new.known.table) v p c.in_ok-add_instance.ensures.keeps.terms a) now.0 in
      let h : c.loop-at.at ≤ c.loop-at.at - 1 + 1 = omega arith in (
        before.0,
        from_next (IsMetBy p (subst_view c.args.by.now)) (chosen_in c.args.chosen.now c.args.unknown) c.loop-at.at (c.loop-at.at - 1) (list_view c.args.list.now) (formula_of c.in-Some.instance.now) h c.in-Some.ensures
            before.1 (λ t. now.1 (subst (λ b. b ≡ true) (sym c.has.ensures) t)),
      );
}

pub returns-clause-read : goal.returns-clause-read
returns-clause-read c = λ v p a m.
    let past : length (list_view c.args.list.now) ≤ length (list_view c.args.list.now) = omega arith in
    let none : c.loop-at.at ≡ 0 = omega arith in
    let read = c.loop-at.invariant.read v p a m in
    let f = chosen_in c.args.chosen.now c.args.unknown in
    let P = IsMetBy p (subst_view c.args.by.now) in
    let l = list_view c.args.list.now in
    (read.0, all_chosen p f (subst_view c.args.by.now) (length l) l past (from_first P f (length l) l (subst (λ n. ChosenFrom P f n l) none read.1)))

pub returns-in_err-add_instance-clause-keeps : goal.returns-in_err-add_instance-clause-keeps
returns-in_err-add_instance-clause-keeps c = keeps_then _ _ _ c.loop-at.invariant.keeps c.in_err-add_instance.ensures.keeps
