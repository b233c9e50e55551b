use Rattle.std.proofs.Common.{◌∙◌, ◌<◌, ◌≤◌, ◌+◌, length, List, ℕ, refl, sym, subst, arith, below_more}
use Rattle.lq_logic_predicates.specs.TableView.{terms_of}
use Rattle.lq_logic_points.specs.Agreeing.{AgreesBefore}
use Rattle.lq_logic_points.specs.Values.{point_from}
use Rattle.lq_logic_points.proofs.Walks.{all_from_before, before_from_all}
use Rattle.lq_logic_points.proofs.pairs.all_agree.Goals as goal

pub returns-then-not-agrees-clause-answer : goal.returns-then-not-agrees-clause-answer
returns-then-not-agrees-clause-answer c = λ flags.
    let terms = terms_of c.args.terms.now in (
      λ e. cc,
      λ h. sym c.if-not-agrees.true ∙ (c.in_ok-agrees.ensures.answer flags).1
          (subst (λ l. AgreesBefore (point_from l c.args.numbers.now flags c.args.classes.now.entries) terms c.loop-at.at) (sym c.loop-at.invariant.same)
          (before_from_all (point_from (terms_of c.args.table.now) c.args.numbers.now flags c.args.classes.now.entries) terms c.loop-at.at h)),
    )

pub loop-at-preserved : goal.loop-at-preserved
loop-at-preserved c =
    let terms = terms_of c.args.terms.now in
    let P = λ (flags : List _) (l : List _) (n : ℕ). AgreesBefore (point_from l c.args.numbers.now flags c.args.classes.now.entries) terms n in
    record {
      same = c.in_ok-agrees.ensures.same ∙ c.loop-at.invariant.same;
      agree = λ flags. subst (λ l. (n : ℕ) → n < c.loop-at.at + 1 → P flags l n) (sym c.in_ok-agrees.ensures.same)
          (below_more (P flags (terms_of c.loop-at.table)) c.loop-at.at (c.loop-at.invariant.agree flags) ((c.in_ok-agrees.ensures.answer flags).0 c.if-not-agrees.false));
    }

pub returns-clause-answer : goal.returns-clause-answer
returns-clause-answer c = λ flags.
    let terms = terms_of c.args.terms.now in
    let last : length terms ≤ c.loop-at.at = subst (λ n. n ≤ c.loop-at.at) c.len-at-end.ensures.count c.loop-at-test.false in (
      λ e. all_from_before (point_from (terms_of c.args.table.now) c.args.numbers.now flags c.args.classes.now.entries) terms
          (λ n w. subst (λ l. AgreesBefore (point_from l c.args.numbers.now flags c.args.classes.now.entries) terms n) c.loop-at.invariant.same (c.loop-at.invariant.agree flags n (omega (arith, w, last)))),
      λ h. refl,
    )
