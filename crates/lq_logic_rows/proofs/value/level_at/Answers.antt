use Rattle.std.proofs.Common.{arith, ◌≤◌, ◌≡◌, ◌∙◌, ◌<◌, length, ap, ap₂, sym, subst, rules, take, slice_get, Some, Err, IfErr, get_or, below_more, FitsSigned, ℕ, ℤ, pos}
use Rattle.std.specs.Int.{w128}
use Rattle.std.proofs.lemmas.Int.{to_z-of_z}
use Rattle.std.proofs.lemmas.List.{take_all}
use Rattle.lq_base_numbers.specs.Rationals.NumberForms.{HasSumForm}
use Rattle.lq_base_numbers.specs.Rationals.Rational.{whole, ◌+ℚ◌, ◌*ℚ◌}
use Rattle.lq_logic_rows.specs.Row.{sum_at}
use Rattle.lq_logic_rows.specs.Steps.{valuation_of, IsStep, IsFormed, member_product, member_sum, constant_sum}
use Rattle.lq_base_numbers.specs.declared.fractions.past.NumberPast.{NumberPast}
use Rattle.lq_base_numbers.specs.declared.fractions.past.NumOp.TheVariants.{Add, Mul}
use Rattle.lq_base_numbers.specs.Fractions.Value.{value_of, numer_of, denom_of}
use Rattle.lq_logic_rows.proofs.Levels.{sum_at-more, value_there, member_there, carried}
use Rattle.lq_logic_rows.proofs.Formed.{HasForm, MemberFormed, FormedBelow, product_formed, sum_formed, one_formed, row_formed, kept}
use Rattle.lq_logic_rows.proofs.value.level_at.Goals as goal

pub loop-term-preserved : goal.loop-term-preserved
loop-term-preserved c =
    let v = valuation_of c.args.values.now in let items = c.parts-term-items.result.now in let i = c.loop-term.term-index in
    let p : ℕ × ℤ = get_or items i (0, pos 0) in
    let fits : FitsSigned w128 p.1 = search rules in
    let within : p.0 < length c.args.values.now = search rules in
    let inside : i < length items = c.loop-term-test.true in
    let value : value_of c.index-values-term.result ≡ v p.0 = sym (value_there c.args.values.now p.0 c.index-values-term.result within c.index-values-term.is) in
    let product : value_of c.in_ok-product.product ≡ whole p.1 *ℚ v p.0 =
    c.in_ok-product.ensures.exact ∙ ap₂ (λ x y. x *ℚ y) (c.whole.ensures.value ∙ ap whole (to_z-of_z w128 p.1 fits)) value in
    let product_fits : FitsSigned w128 (numer_of c.in_ok-product.product) = search rules in
    let sum : HasForm Add (sum_at v (take i items)) (whole p.1 *ℚ v p.0) =
    subst (λ x. HasForm Add x (whole p.1 *ℚ v p.0)) c.loop-term.invariant.total
    (subst (λ y. HasForm Add (value_of c.loop-term.total) y) product (sum_formed c.loop-term.total c.in_ok-product.product c.in_ok-total.ensures.formed)) in
    record {
      total = c.in_ok-total.ensures.exact ∙ ap₂ (λ x y. x +ℚ y) c.loop-term.invariant.total product ∙ sym (sum_at-more v items i (0, pos 0) inside);
      formed =
          below_more (MemberFormed v items) i c.loop-term.invariant.formed
          (one_formed v items i p (member_there items i (0, pos 0) inside) (product_formed c.in_ok-product.product (whole p.1) (v p.0) product_fits product) sum);
    }

pub returns-in_err-product-clause-step : goal.returns-in_err-product-clause-step
returns-in_err-product-clause-step c =
    let v = valuation_of c.args.values.now in let items = c.parts-term-items.result.now in let i = c.loop-term.term-index in
    let p : ℕ × ℤ = get_or items i (0, pos 0) in
    let row = c.args.row.now in
    let P = λ (e : NumberPast). IsStep v row e.op (value_of e.left) (value_of e.right) in
    let fits : FitsSigned w128 p.1 = search rules in
    let within : p.0 < length c.args.values.now = search rules in
    let inside : i < length items = c.loop-term-test.true in
    let there : slice_get row.parts i ≡ Some (p.0, p.1) = ap (λ l. slice_get l i) (sym c.parts-term-items.ensures.value) ∙ member_there items i (0, pos 0) inside in
    let coefficient : value_of c.whole.result ≡ whole p.1 = c.whole.ensures.value ∙ ap whole (to_z-of_z w128 p.1 fits) in
    let value : v p.0 ≡ value_of c.index-values-term.result = value_there c.args.values.now p.0 c.index-values-term.result within c.index-values-term.is in
    let step : IsStep v row Mul (value_of c.whole.result) (value_of c.index-values-term.result) =
    subst (λ x. IsStep v row Mul x (value_of c.index-values-term.result)) (sym coefficient) (subst (λ y. IsStep v row Mul (whole p.1) y) value (member_product i p.0 p.1 there)) in
    let was : c.from_residual.result ≡ Err c.in_err-product.field-0.0 = search rules in
    subst (λ r. IfErr r P) (sym was) (subst P (sym c.in_err-product.ensures.carries) step)

pub returns-in_err-total-clause-step : goal.returns-in_err-total-clause-step
returns-in_err-total-clause-step c =
    let v = valuation_of c.args.values.now in let items = c.parts-term-items.result.now in let i = c.loop-term.term-index in
    let p : ℕ × ℤ = get_or items i (0, pos 0) in
    let row = c.args.row.now in
    let P = λ (e : NumberPast). IsStep v row e.op (value_of e.left) (value_of e.right) in
    let fits : FitsSigned w128 p.1 = search rules in
    let within : p.0 < length c.args.values.now = search rules in
    let inside : i < length items = c.loop-term-test.true in
    let there : slice_get row.parts i ≡ Some (p.0, p.1) = ap (λ l. slice_get l i) (sym c.parts-term-items.ensures.value) ∙ member_there items i (0, pos 0) inside in
    let coefficient : value_of c.whole.result ≡ whole p.1 = c.whole.ensures.value ∙ ap whole (to_z-of_z w128 p.1 fits) in
    let value : v p.0 ≡ value_of c.index-values-term.result = value_there c.args.values.now p.0 c.index-values-term.result within c.index-values-term.is in
    let sum : sum_at v (take i row.parts) ≡ value_of c.loop-term.total = ap (λ l. sum_at v (take i l)) (sym c.parts-term-items.ensures.value) ∙ sym c.loop-term.invariant.total in
    let product : whole p.1 *ℚ v p.0 ≡ value_of c.in_ok-product.product = sym (c.in_ok-product.ensures.exact ∙ ap₂ (λ x y. x *ℚ y) coefficient (sym value)) in
    let step : IsStep v row Add (value_of c.loop-term.total) (value_of c.in_ok-product.product) =
    subst (λ x. IsStep v row Add x (value_of c.in_ok-product.product)) sum (subst (λ y. IsStep v row Add (sum_at v (take i row.parts)) y) product (member_sum i p.0 p.1 there)) in
    let was : c.from_residual-in_err-total.result ≡ Err c.in_err-total.field-0.0 = search rules in
    subst (λ r. IfErr r P) (sym was) (subst P (sym c.in_err-total.ensures.carries) step)

pub returns-clause-step : goal.returns-clause-step
returns-clause-step c =
    let v = valuation_of c.args.values.now in let items = c.parts-term-items.result.now in let row = c.args.row.now in
    let P = λ (e : NumberPast). IsStep v row e.op (value_of e.left) (value_of e.right) in
    let fits : FitsSigned w128 c.constant.result = search rules in
    let sum : sum_at v row.parts ≡ value_of c.loop-term.total =
    ap (sum_at v) (sym c.parts-term-items.ensures.value) ∙ ap (sum_at v) (sym (take_all c.loop-term.term-index items c.loop-term-test.false)) ∙ sym c.loop-term.invariant.total in
    let constant : whole row.constant ≡ value_of c.whole-2.result = sym (c.whole-2.ensures.value ∙ ap whole (to_z-of_z w128 c.constant.result fits ∙ c.constant.ensures)) in
    let step : IsStep v row Add (value_of c.loop-term.total) (value_of c.whole-2.result) =
    subst (λ x. IsStep v row Add x (value_of c.whole-2.result)) sum (subst (λ y. IsStep v row Add (sum_at v row.parts) y) constant constant_sum) in
    carried P c.add-2.result _ c.add-2.ensures.carries step

pub returns-clause-formed : goal.returns-clause-formed
returns-clause-formed c =
    let v = valuation_of c.args.values.now in let items = c.parts-term-items.result.now in let row = c.args.row.now in
    let fits : FitsSigned w128 c.constant.result = search rules in
    let same : items ≡ row.parts = c.parts-term-items.ensures.value in
    let past_end : length items ≤ c.loop-term.term-index = c.loop-term-test.false in
    let sum : value_of c.loop-term.total ≡ sum_at v row.parts =
    c.loop-term.invariant.total ∙ ap (sum_at v) (take_all c.loop-term.term-index items c.loop-term-test.false) ∙ ap (sum_at v) same in
    let constant : value_of c.whole-2.result ≡ whole row.constant = c.whole-2.ensures.value ∙ ap whole (to_z-of_z w128 c.constant.result fits ∙ c.constant.ensures) in
    let below : FormedBelow v row.parts (length row.parts) =
    subst (λ l. FormedBelow v l (length l)) same (λ k h. c.loop-term.invariant.formed k (omega (arith, h, past_end))) in
    kept (HasSumForm (numer_of c.loop-term.total) (numer_of c.whole-2.result) (denom_of c.loop-term.total) (denom_of c.whole-2.result)) (IsFormed v row) c.add-2.result
    c.add-2.ensures.formed
    (λ h. row_formed v row below
    (subst (λ x. HasForm Add x (whole row.constant)) sum (subst (λ y. HasForm Add (value_of c.loop-term.total) y) constant (sum_formed c.loop-term.total c.whole-2.result h))))
