use Rattle.std.proofs.Common.{◌≡◌, ◌<◌, ◌+◌, sym, ap, ap₂, subst, ◌∙◌, length, arith, List, []}
use Rattle.std.proofs.lemmas.List.{length_push}
use Rattle.lq_base_numbers.specs.Rationals.Rational.{◌+ℚ◌, ◌*ℚ◌}
use Rattle.lq_base_numbers.specs.declared.fractions.frac.Frac.{Frac}
use Rattle.lq_base_numbers.specs.Fractions.Value.{value_of}
use Rattle.lq_logic_rows.specs.Steps.{valuation_of}
use Rattle.lq_prover_simplex.specs.Lines.{factor_of}
use Rattle.lq_prover_simplex.specs.Systems.{line_at}
use Rattle.lq_prover_simplex.proofs.Values.{push_valuation, value_there, element}
use Rattle.lq_prover_simplex.proofs.basis.shifted.Goals as goal

pub loop-at-preserved : goal.loop-at-preserved
loop-at-preserved c =
    let lines = c.args.lines.now in let values = c.args.values.now in let at = c.loop-at.at in let v = c.args.variable in let by = value_of c.args.by.now in
    let inside : at < length values = (let e = c.requires.valued in let h = c.loop-at-test.true in omega arith) in
    let new : value_of c.in_ok-moved.field-0 ≡ valuation_of values at +ℚ factor_of (line_at lines at) v *ℚ by =
    c.in_ok-moved.ensures.exact
    ∙ ap₂ (λ s es. s +ℚ factor_of es v *ℚ by) (sym (value_there values at c.index-values-at.result inside c.index-values-at.is))
    (sym (element lines at c.index-lines-at.result [] c.loop-at-test.true c.index-lines-at.is)) in
    record {
      count = ap length c.in_ok-push.ensures.items ∙ length_push c.loop-at.shifted.items c.in_ok-moved.field-0 ∙ ap (λ n. n + 1) c.loop-at.invariant.count;
      moved = λ k h. subst (λ (xs : List Frac). valuation_of xs k ≡ valuation_of values k +ℚ factor_of (line_at lines k) v *ℚ by) (sym c.in_ok-push.ensures.items)
          (push_valuation c.loop-at.shifted.items c.in_ok-moved.field-0 (λ k. valuation_of values k +ℚ factor_of (line_at lines k) v *ℚ by) at c.loop-at.invariant.count c.loop-at.invariant.moved new k h);
    }

pub returns-clause-shifted : goal.returns-clause-shifted
returns-clause-shifted c =
    let n = c.loop-at.invariant.count in let e = c.loop-at-test.false in let f = c.loop-at.auto.at-end in
    (omega arith, λ k h. c.loop-at.invariant.moved k (omega arith))
