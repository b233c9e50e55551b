use Rattle.std.proofs.Common.{◌≡◌, ◌∙◌, ◌<◌, length, ap, ap₂, sym, rules, get_or, FitsSigned, ℕ, ℤ, pos}
use Rattle.std.specs.Int.{w128}
use Rattle.std.proofs.lemmas.Int.{to_z-of_z}
use Rattle.lq_base_numbers.specs.Rationals.Rational.{whole, ◌+ℚ◌, ◌*ℚ◌}
use Rattle.lq_logic_rows.proofs.Levels.{sum_at-more}
use Rattle.lq_base_numbers.specs.Fractions.Value.{value_of}
use Rattle.lq_prover_case.proofs.state.holding.level_by.Goals as goal

pub loop-term-preserved : goal.loop-term-preserved
loop-term-preserved g c =
    let v = g.E.LinearEngine.point c.args.engine.now in let items = c.parts-term-items.result.now in let i = c.loop-term.term-index in
    let p : ℕ × ℤ = get_or items i (0, pos 0) in
    let fits : FitsSigned w128 p.1 = search rules in
    let inside : i < length items = c.loop-term-test.true in
    let product : value_of c.in_ok-product.product ≡ whole p.1 *ℚ v p.0 =
    c.in_ok-product.ensures.exact ∙ ap₂ (λ x y. x *ℚ y) (c.whole.ensures.value ∙ ap whole (to_z-of_z w128 p.1 fits)) c.value.ensures in
    c.in_ok-total.ensures.exact ∙ ap₂ (λ x y. x +ℚ y) c.loop-term.invariant product ∙ sym (sum_at-more v items i (0, pos 0) inside)
