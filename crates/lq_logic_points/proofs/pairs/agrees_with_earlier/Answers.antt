use Rattle.std.proofs.Common.{◌≡◌, ◌∙◌, ◌<◌, length, [], None, Err, IfErr, get_or, refl, sym, subst, arith, rules}
use Rattle.lq_base_numbers.specs.declared.fractions.past.NumberPast.{NumberPast}
use Rattle.lq_logic_predicates.specs.ClosedImplication.{Agree}
use Rattle.lq_logic_predicates.specs.Literals.{pair_rows, all_pairs}
use Rattle.lq_logic_predicates.specs.TableView.{terms_of}
use Rattle.lq_logic_predicates.specs.TermView.{sum_of}
use Rattle.lq_logic_points.specs.declared.error.PointError.{PointError}
use Rattle.lq_logic_points.specs.declared.error.PointError.TheVariants.{Past}
use Rattle.lq_logic_points.specs.Evaluation.{IsStepOf}
use Rattle.lq_logic_points.specs.Values.{point_from}
use Rattle.lq_logic_points.proofs.Reading.{widened}
use Rattle.lq_logic_points.proofs.Walks.{Pending, pending_start, pending_step, pending_end, pair_among, pair_fits}
use Rattle.lq_logic_points.proofs.pairs.agrees_with_earlier.Goals as goal

pub loop-next-init : goal.loop-next-init
loop-next-init c = record {
  same = refl;
  pending = λ flags. pending_start (point_from (terms_of c.args.table.now) c.args.numbers.now flags c.args.classes.now.entries) (terms_of c.args.terms.now) c.args.at c.args.earlier.now c.requires.earlier c.requires.at;
}

pub term-requires : goal.term-requires
term-requires c =
    let below : c.in-Some.before < c.args.at = (c.loop-next.invariant.pending []).below c.in-Some.before c.in-Some.is in
    let inside : c.args.at < length (terms_of c.args.terms.now) = c.requires.at in omega (arith, below, inside)

pub agree-requires-clause-fits : goal.agree-requires-clause-fits
agree-requires-clause-fits c =
    pair_fits (terms_of c.args.terms.now) c.in-Some.before c.args.at (sum_of c.term.result.now) (sum_of c.term-term.result.now)
    ((c.loop-next.invariant.pending []).below c.in-Some.before c.in-Some.is) c.term.ensures c.term-term.ensures c.requires.fits

pub returns-in_err-agrees-clause-step : goal.returns-in_err-agrees-clause-step
returns-in_err-agrees-clause-step c =
    let terms = terms_of c.args.terms.now in let s = sum_of c.term.result.now in let t = sum_of c.term-term.result.now in let e = c.in_err-agrees.field-0.0 in
    let P = λ (x : PointError). (n : NumberPast) → x ≡ Past n → IsStepOf (all_pairs terms) (terms_of c.args.table.now) c.args.numbers.now n in
    let was : c.from_residual.result ≡ Err e = search rules in
    let here : P e = λ n h.
    widened (pair_rows s t) (all_pairs terms) (terms_of c.args.table.now) c.args.numbers.now n
    (λ l k. pair_among terms c.in-Some.before c.args.at s t l ((c.loop-next.invariant.pending []).below c.in-Some.before c.in-Some.is) c.term.ensures c.term-term.ensures k)
    (subst (λ l. IsStepOf (pair_rows s t) l c.args.numbers.now n) c.loop-next.invariant.same (c.in_err-agrees.ensures.step n h)) in
    subst (λ r. IfErr r P) (sym was) here

pub returns-then-not-agrees-clause-answer : goal.returns-then-not-agrees-clause-answer
returns-then-not-agrees-clause-answer c = λ flags.
    let s = sum_of c.term.result.now in let t = sum_of c.term-term.result.now in (
      λ e. cc,
      λ h. sym c.if-not-agrees.true ∙ (c.in_ok-agrees.ensures.answer flags).1
          (subst (λ l. Agree (point_from l c.args.numbers.now flags c.args.classes.now.entries) s t) (sym c.loop-next.invariant.same)
          (h c.in-Some.before s t ((c.loop-next.invariant.pending []).below c.in-Some.before c.in-Some.is) c.term.ensures c.term-term.ensures)),
    )

pub bounds-earlier-before : goal.bounds-earlier-before
bounds-earlier-before c =
    let below : c.in-Some.before < c.args.at = (c.loop-next.invariant.pending []).below c.in-Some.before c.in-Some.is in
    let inside : c.args.at < length (terms_of c.args.terms.now) = c.requires.at in let one = c.requires.length in omega (arith, below, inside, one)

pub offset_bounds-earlier-before : goal.offset_bounds-earlier-before
offset_bounds-earlier-before c =
    let below : c.in-Some.before < c.args.at = (c.loop-next.invariant.pending []).below c.in-Some.before c.in-Some.is in
    let inside : c.args.at < length (terms_of c.args.terms.now) = c.requires.at in let one = c.requires.length in
    let within : c.in-Some.before < length c.args.earlier.now = omega (arith, below, inside, one) in
    search rules

pub loop-next-preserved : goal.loop-next-preserved
loop-next-preserved c =
    let terms = terms_of c.args.terms.now in let s = sum_of c.term.result.now in let t = sum_of c.term-term.result.now in
    record {
      same = c.in_ok-agrees.ensures.same ∙ c.loop-next.invariant.same;
      pending = λ flags.
          subst (λ l. Pending (point_from l c.args.numbers.now flags c.args.classes.now.entries) terms c.args.at (get_or c.args.earlier.now c.in-Some.before None)) (sym c.in_ok-agrees.ensures.same)
          (pending_step (point_from (terms_of c.loop-next.table) c.args.numbers.now flags c.args.classes.now.entries) terms c.args.at c.in-Some.before s t c.args.earlier.now c.loop-next.next
          c.requires.earlier c.requires.at c.in-Some.is c.term.ensures c.term-term.ensures ((c.in_ok-agrees.ensures.answer flags).0 (c.if-not-agrees.false)) (c.loop-next.invariant.pending flags));
    }

pub returns-clause-answer : goal.returns-clause-answer
returns-clause-answer c = λ flags.
    let terms = terms_of c.args.terms.now in let p = point_from (terms_of c.args.table.now) c.args.numbers.now flags c.args.classes.now.entries in (
      λ e. pending_end p terms c.args.at (subst (Pending p terms c.args.at) c.in_default.is
          (subst (λ l. Pending (point_from l c.args.numbers.now flags c.args.classes.now.entries) terms c.args.at c.loop-next.next) c.loop-next.invariant.same (c.loop-next.invariant.pending flags))),
      λ h. refl,
    )
