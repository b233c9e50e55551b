use Rattle.std.proofs.Common.{◌≡◌, ◌∙◌, ◌<◌, length, ap, ap₂, sym, subst, rules, take, slice_get, get_or, Some, Err, FitsSigned, ℕ, ℤ, pos}
use Rattle.std.specs.Int.{w128}
use Rattle.std.proofs.lemmas.Int.{to_z-of_z}
use Rattle.std.proofs.lemmas.Option.{slice_get-get_or}
use Rattle.lq_base_numbers.specs.Rationals.Rational.{whole, ◌+ℚ◌, ◌*ℚ◌}
use Rattle.lq_logic_rows.specs.Steps.{valuation_of}
use Rattle.lq_prover_simplex.proofs.Forms.{sum_at-more, term_below}
use Rattle.lq_prover_simplex.proofs.Values.{value_there}
use Rattle.lq_base_numbers.specs.Fractions.Value.{value_of}
use Rattle.lq_logic_rows.specs.Row.{sum_at}
use Rattle.lq_base_numbers.specs.declared.fractions.past.NumOp.TheVariants.{Add, Mul}
use Rattle.lq_prover_simplex.specs.Operations.{IsSummed}
use Rattle.lq_prover_simplex.proofs.Operations.{past_in, past_was}
use Rattle.lq_prover_simplex.proofs.basis.form_value.Goals as goal

pub offset_bounds-values-term : goal.offset_bounds-values-term
offset_bounds-values-term c =
    let b : (get_or c.args.parts.now c.loop-term.term-index (0, pos 0)).0 < length c.args.values.now = term_below (length c.args.values.now) c.args.parts.now c.loop-term.term-index (0, pos 0) c.requires c.loop-term-test.true in
    search rules

pub bounds-values-term : goal.bounds-values-term
bounds-values-term c = term_below (length c.args.values.now) c.args.parts.now c.loop-term.term-index (0, pos 0) c.requires c.loop-term-test.true

pub loop-term-preserved : goal.loop-term-preserved
loop-term-preserved c =
    let values = c.args.values.now in let v = valuation_of values in let items = c.args.parts.now in let i = c.loop-term.term-index in
    let p : ℕ × ℤ = get_or items i (0, pos 0) in
    let fits : FitsSigned w128 p.1 = search rules in
    let within : p.0 < length values = term_below (length values) items i (0, pos 0) c.requires c.loop-term-test.true in
    c.in_ok-total.ensures.exact
    ∙ ap₂ (λ x y. x +ℚ y) c.loop-term.invariant
    (c.in_ok-product.ensures.exact ∙ ap₂ (λ x y. x *ℚ y) (c.whole.ensures.value ∙ ap whole (to_z-of_z w128 p.1 fits)) (sym (value_there values p.0 c.index-values-term.result within c.index-values-term.is)))
    ∙ sym (sum_at-more v items i (0, pos 0) c.loop-term-test.true)

pub returns-in_err-product-clause-stop : goal.returns-in_err-product-clause-stop
returns-in_err-product-clause-stop c =
    let values = c.args.values.now in let v = valuation_of values in let items = c.args.parts.now in let i = c.loop-term.term-index in
    let p : ℕ × ℤ = get_or items i (0, pos 0) in
    let fits : FitsSigned w128 p.1 = search rules in
    let within : p.0 < length values = term_below (length values) items i (0, pos 0) c.requires c.loop-term-test.true in
    let Is = IsSummed v items in
    let e = c.in_err-product.field-0.0 in
    let was : c.from_residual.result ≡ Err e = search rules in
    let there : slice_get items i ≡ Some (p.0, p.1) = slice_get-get_or items i (0, pos 0) c.loop-term-test.true in
    past_was Is c.from_residual.result e was
    (past_in Is e Mul c.whole.result c.index-values-term.result c.in_err-product.ensures.carries c.in_err-product.ensures.past
    (subst (λ x. Is Mul x (value_of c.index-values-term.result)) (sym (c.whole.ensures.value ∙ ap whole (to_z-of_z w128 p.1 fits)))
    (subst (λ y. Is Mul (whole p.1) y) (value_there values p.0 c.index-values-term.result within c.index-values-term.is) (IsSummed.product i p.0 p.1 there))))

pub returns-in_err-total-clause-stop : goal.returns-in_err-total-clause-stop
returns-in_err-total-clause-stop c =
    let values = c.args.values.now in let v = valuation_of values in let items = c.args.parts.now in let i = c.loop-term.term-index in
    let p : ℕ × ℤ = get_or items i (0, pos 0) in
    let fits : FitsSigned w128 p.1 = search rules in
    let within : p.0 < length values = term_below (length values) items i (0, pos 0) c.requires c.loop-term-test.true in
    let Is = IsSummed v items in
    let e = c.in_err-total.field-0.0 in
    let was : c.from_residual-in_err-total.result ≡ Err e = search rules in
    let there : slice_get items i ≡ Some (p.0, p.1) = slice_get-get_or items i (0, pos 0) c.loop-term-test.true in
    let product : value_of c.in_ok-product.product ≡ whole p.1 *ℚ v p.0 =
    c.in_ok-product.ensures.exact ∙ ap₂ (λ x y. x *ℚ y) (c.whole.ensures.value ∙ ap whole (to_z-of_z w128 p.1 fits)) (sym (value_there values p.0 c.index-values-term.result within c.index-values-term.is)) in
    past_was Is c.from_residual-in_err-total.result e was
    (past_in Is e Add c.loop-term.total c.in_ok-product.product c.in_err-total.ensures.carries c.in_err-total.ensures.past
    (subst (λ x. Is Add x (value_of c.in_ok-product.product)) (sym c.loop-term.invariant)
    (subst (λ y. Is Add (sum_at v (take i items)) y) (sym product) (IsSummed.sum i p.0 p.1 there))))
