use Rattle.std.proofs.Common.{◌≡◌, ◌∙◌, ◌<◌, length, ap, ap₂, sym, subst, rules, slice_get, get_or, Some, Err, FitsSigned, ℕ, ℤ, pos, []}
use Rattle.std.specs.Int.{w128}
use Rattle.std.proofs.lemmas.Int.{to_z-of_z}
use Rattle.std.proofs.lemmas.Option.{slice_get-get_or}
use Rattle.lq_base_numbers.specs.Rationals.Rational.{whole, ◌+ℚ◌, ◌*ℚ◌}
use Rattle.lq_base_numbers.specs.Fractions.Value.{value_of}
use Rattle.lq_prover_simplex.specs.Lines.{combine, IsLine}
use Rattle.lq_prover_simplex.specs.Systems.{line_at}
use Rattle.lq_prover_simplex.proofs.Forms.{sum_at-more, term_below}
use Rattle.lq_prover_simplex.proofs.Values.{element}
use Rattle.lq_prover_simplex.specs.Operations.{IsLineSum, IsLining}
use Rattle.lq_prover_simplex.proofs.Operations.{stops_were, lining_sum}
use Rattle.lq_prover_simplex.proofs.basis.line_of.Goals as goal

pub offset_bounds-lines-term : goal.offset_bounds-lines-term
offset_bounds-lines-term c =
    let b : (get_or c.args.parts.now c.loop-term.term-index (0, pos 0)).0 < length c.args.lines.now = term_below (length c.args.lines.now) c.args.parts.now c.loop-term.term-index (0, pos 0) c.requires.below c.loop-term-test.true in
    search rules

pub bounds-lines-term : goal.bounds-lines-term
bounds-lines-term c = term_below (length c.args.lines.now) c.args.parts.now c.loop-term.term-index (0, pos 0) c.requires.below c.loop-term-test.true

pub sum-requires-clause-right : goal.sum-requires-clause-right
sum-requires-clause-right c =
    let lines = c.args.lines.now in let items = c.args.parts.now in let i = c.loop-term.term-index in
    let within = term_below (length lines) items i (0, pos 0) c.requires.below c.loop-term-test.true in
    subst IsLine (element lines (get_or items i (0, pos 0)).0 c.index-lines-term.result [] within c.index-lines-term.is) (c.requires.lines (get_or items i (0, pos 0)).0)

pub loop-term-preserved : goal.loop-term-preserved
loop-term-preserved c =
    let lines = c.args.lines.now in let items = c.args.parts.now in let i = c.loop-term.term-index in
    let p : ℕ × ℤ = get_or items i (0, pos 0) in
    let fits : FitsSigned w128 p.1 = search rules in
    let within : p.0 < length lines = term_below (length lines) items i (0, pos 0) c.requires.below c.loop-term-test.true in
    let right : c.index-lines-term.result ≡ line_at lines p.0 = sym (element lines p.0 c.index-lines-term.result [] within c.index-lines-term.is) in
    record {
      sum = λ x.
          c.in_ok-line.ensures.sum x
          ∙ ap₂ (λ s t. s +ℚ t) (c.loop-term.invariant.sum x)
          (ap₂ (λ s t. s *ℚ t) (c.whole.ensures.value ∙ ap whole (to_z-of_z w128 p.1 fits)) (ap (combine x) right))
          ∙ sym (sum_at-more (λ t. combine x (line_at lines t)) items i (0, pos 0) c.loop-term-test.true);
      ascends = c.in_ok-line.ensures.line;
    }

pub returns-in_err-line-clause-stop : goal.returns-in_err-line-clause-stop
returns-in_err-line-clause-stop c =
    let lines = c.args.lines.now in let items = c.args.parts.now in let i = c.loop-term.term-index in
    let p : ℕ × ℤ = get_or items i (0, pos 0) in
    let fits : FitsSigned w128 p.1 = search rules in
    let within : p.0 < length lines = term_below (length lines) items i (0, pos 0) c.requires.below c.loop-term-test.true in
    let right : c.index-lines-term.result ≡ line_at lines p.0 = sym (element lines p.0 c.index-lines-term.result [] within c.index-lines-term.is) in
    let there : slice_get items i ≡ Some (p.0, p.1) = slice_get-get_or items i (0, pos 0) c.loop-term-test.true in
    let e = c.in_err-line.field-0.0 in
    let was : c.from_residual.result ≡ Err e = search rules in
    stops_were (IsLineSum c.loop-term.line (value_of c.whole.result) c.index-lines-term.result) (IsLining lines items) c.from_residual.result e
    (lining_sum lines items i p.0 p.1 c.loop-term.line c.index-lines-term.result (value_of c.whole.result) there c.loop-term.invariant.ascends c.loop-term.invariant.sum right
    (c.requires.lines p.0) (c.whole.ensures.value ∙ ap whole (to_z-of_z w128 p.1 fits)))
    was c.in_err-line.ensures.stop
