use Rattle.std.proofs.Common.{◌≡◌, ◌∙◌, ◌≤◌, ◌+◌, ◌-◌, true, false, arith, refl, subst}
use Rattle.lq_refined_instances.specs.Views.{list_view}
use Rattle.lq_solve_facts.proofs.FactsLemmas.Holding.{keeps_self, keeps_then}
use Rattle.lq_logic_predicates.specs.PredView.{formula_of}
use Rattle.lq_refined_substitution.specs.Substitution.Views.{subst_view}
use Rattle.lq_solve_fixpoint.specs.Weakening.Chosen.{chosen_in}
use Rattle.lq_solve_facts.specs.Store.Reads.{AreReadFrom}
use Rattle.lq_solve_facts.proofs.StoreLemmas.Readings.{reads_kept, reads_next, reads_none, reads_skip, stands_under}
use Rattle.lq_solve_facts.proofs.store.reading.read_chosen.Goals as goal

pub loop-at-init : goal.loop-at-init
loop-at-init c = record {
  kept = λ p h. h;
  keeps = keeps_self _;
  same = refl;
  stored = λ F a s. a;
  reads = λ F a s.
      let l = c.len-at.ensures in
      reads_none c.len-at.result c.args.known.now (chosen_in c.args.chosen.now c.args.unknown) (subst_view c.args.by.now) (list_view c.args.list.now) c.new-made.result.items c.new-made.ensures.items (omega (arith, l));
}

pub loop-at-preserved : goal.loop-at-preserved
loop-at-preserved c =
    let before = c.loop-at.invariant in
    let f = chosen_in c.args.chosen.now c.args.unknown in
    let σ = subst_view c.args.by.now in
    let qs = list_view c.args.list.now in
    let n = c.loop-at.at - 1 in
    let q = formula_of c.in-Some.instance.now in
    let step : c.loop-at.at ≤ n + 1 = omega arith in
    record {
      kept = λ p h. c.in_ok-read.ensures.kept p (before.kept p h);
      keeps = keeps_then _ _ _ before.keeps c.in_ok-read.ensures.keeps;
      same = c.in_ok-read.ensures.same ∙ before.same;
      stored = λ F a s. c.in_ok-read.ensures.stored F (before.stored F a s) (stands_under F c.args.place σ qs n q s c.in-Some.ensures);
      reads = λ F a s. reads_next c.loop-at.at n c.read_instance.new.known f σ qs c.loop-at.made.items c.push.new.self.items (record { number = n; read = c.in_ok-read.read }) q step refl c.in-Some.ensures
          (subst (λ b. b ≡ true) c.has.ensures c.if-not-has.false)
          (c.in_ok-read.ensures.read F (before.stored F a s) (stands_under F c.args.place σ qs n q s c.in-Some.ensures)) c.in_ok-push.ensures.items
          (reads_kept c.loop-at.at c.loop-at.known c.read_instance.new.known f σ qs c.loop-at.made.items c.in_ok-read.ensures.keeps (before.reads F a s));
    }

pub loop-at-preserved-then-not-has : goal.loop-at-preserved-then-not-has
loop-at-preserved-then-not-has c =
    let before = c.loop-at.invariant in
    let n = c.loop-at.at - 1 in
    let step : c.loop-at.at ≤ n + 1 = omega arith in
    record {
      kept = before.kept;
      keeps = before.keeps;
      same = before.same;
      stored = before.stored;
      reads = λ F a s. reads_skip c.loop-at.at n c.loop-at.known (chosen_in c.args.chosen.now c.args.unknown) (subst_view c.args.by.now) (list_view c.args.list.now) c.loop-at.made.items step
          (subst (λ b. b ≡ false) c.has.ensures c.if-not-has.true) (before.reads F a s);
    }

pub returns-clause-reads : goal.returns-clause-reads
returns-clause-reads c = λ F a s.
    let none : c.loop-at.at ≡ 0 = omega arith in
    subst (λ n. AreReadFrom n c.loop-at.known (chosen_in c.args.chosen.now c.args.unknown) (subst_view c.args.by.now) (list_view c.args.list.now) c.loop-at.made.items) none (c.loop-at.invariant.reads F a s)

pub returns-in_err-read-clause-stored : goal.returns-in_err-read-clause-stored
returns-in_err-read-clause-stored c = λ F a s.
    c.read_instance.ensures.stored F (c.loop-at.invariant.stored F a s)
    (stands_under F c.args.place (subst_view c.args.by.now) (list_view c.args.list.now) (c.loop-at.at - 1) (formula_of c.in-Some.instance.now) s c.in-Some.ensures)

pub returns-in_err-read-clause-kept : goal.returns-in_err-read-clause-kept
returns-in_err-read-clause-kept c = λ p h. c.read_instance.ensures.kept p (c.loop-at.invariant.kept p h)

pub returns-in_err-read-clause-keeps : goal.returns-in_err-read-clause-keeps
returns-in_err-read-clause-keeps c = keeps_then _ _ _ c.loop-at.invariant.keeps c.read_instance.ensures.keeps

pub returns-in_err-push-clause-stored : goal.returns-in_err-push-clause-stored
returns-in_err-push-clause-stored c = λ F a s.
    c.read_instance.ensures.stored F (c.loop-at.invariant.stored F a s)
    (stands_under F c.args.place (subst_view c.args.by.now) (list_view c.args.list.now) (c.loop-at.at - 1) (formula_of c.in-Some.instance.now) s c.in-Some.ensures)

pub returns-in_err-push-clause-kept : goal.returns-in_err-push-clause-kept
returns-in_err-push-clause-kept c = λ p h. c.read_instance.ensures.kept p (c.loop-at.invariant.kept p h)

pub returns-in_err-push-clause-keeps : goal.returns-in_err-push-clause-keeps
returns-in_err-push-clause-keeps c = keeps_then _ _ _ c.loop-at.invariant.keeps c.read_instance.ensures.keeps
