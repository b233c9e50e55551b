use Rattle.std.proofs.Common.{◌≡◌, ◌∙◌, ap, sym, subst, rules, pos, arith, List, Err}
use Rattle.std.proofs.lemmas.Result.{IfOk-weaker}
use Rattle.lq_base_numbers.specs.Rationals.Rational.{whole, ◌+ℚ◌, ◌*ℚ◌}
use Rattle.lq_base_numbers.specs.Rationals.RationalQuotient.{◌/ℚ◌}
use Rattle.lq_base_numbers.specs.Fractions.Value.{value_of}
use Rattle.lq_prover_simplex.specs.Lines.{combine, IsLine}
use Rattle.lq_prover_simplex.specs.declared.line.Entry.{Entry}
use Rattle.lq_prover_simplex.proofs.Systems.{inverse_times, inverse_apart, relation_is}
use Rattle.lq_base_numbers.specs.declared.fractions.past.NumOp.TheVariants.{Neg, Div}
use Rattle.lq_prover_simplex.specs.declared.error.TableauError.TheVariants.{Past}
use Rattle.lq_prover_simplex.specs.Operations.{IsLineSum, IsRelating}
use Rattle.lq_prover_simplex.proofs.Operations.{past_in, stops_past, if_stops_among, relating_sum}
use Rattle.lq_prover_simplex.proofs.basis.relation.Goals as goal

pub sum-requires-clause-left : goal.sum-requires-clause-left
sum-requires-clause-left c =
    let f = value_of c.args.factor.now in
    let one : value_of c.in_ok-inverse.inverse *ℚ f ≡ whole (pos 1) =
    inverse_times (value_of c.in_ok-inverse.inverse) (value_of c.whole.result) f c.requires.apart c.in_ok-inverse.ensures.exact c.whole.ensures.value in
    subst IsLine (sym c.in_ok-first.ensures) (omega arith, inverse_apart (value_of c.in_ok-inverse.inverse) f one, tt)

pub returns-clause-sum : goal.returns-clause-sum
returns-clause-sum c =
    let f = value_of c.args.factor.now in let i = value_of c.in_ok-inverse.inverse in
    let one : i *ℚ f ≡ whole (pos 1) = inverse_times i (value_of c.whole.result) f c.requires.apart c.in_ok-inverse.ensures.exact c.whole.ensures.value in
    IfOk-weaker c.sum.result _ _
    (λ nil h x. ap (λ t. t *ℚ f) (h x ∙ ap (λ (es : List Entry). combine x es +ℚ value_of c.in_ok-times.times *ℚ combine x c.args.line.now) c.in_ok-first.ensures) ∙ relation_is i (value_of c.in_ok-times.times) f (x c.args.leaving) (combine x c.args.line.now) one c.in_ok-times.ensures.exact)
    c.sum.ensures.sum

pub returns-in_err-inverse-clause-stop : goal.returns-in_err-inverse-clause-stop
returns-in_err-inverse-clause-stop c =
    let f = value_of c.args.factor.now in
    let Is = IsRelating c.args.line.now c.args.leaving f in
    let e = c.in_err-inverse.field-0.0 in
    let was : c.from_residual.result ≡ Err (Past e) = search rules in
    stops_past Is c.from_residual.result e was
    (past_in Is e Div c.whole.result c.args.factor.now c.in_err-inverse.ensures.carries c.in_err-inverse.ensures.past
    (subst (λ x. Is Div x f) (sym c.whole.ensures.value) IsRelating.inverse))

pub returns-in_err-times-clause-stop : goal.returns-in_err-times-clause-stop
returns-in_err-times-clause-stop c =
    let f = value_of c.args.factor.now in
    let Is = IsRelating c.args.line.now c.args.leaving f in
    let e = c.in_err-times.field-0.0 in
    let was : c.from_residual-in_err-times.result ≡ Err (Past e) = search rules in
    let q : value_of c.in_ok-inverse.inverse ≡ whole (pos 1) /ℚ f = c.in_ok-inverse.ensures.exact ∙ ap (λ w. w /ℚ f) c.whole.ensures.value in
    stops_past Is c.from_residual-in_err-times.result e was
    (past_in Is e Neg c.in_ok-inverse.inverse c.in_ok-inverse.inverse c.in_err-times.ensures.carries c.in_err-times.ensures.past
    (subst (λ x. Is Neg x x) (sym q) IsRelating.negation))

pub returns-clause-stop : goal.returns-clause-stop
returns-clause-stop c =
    let f = value_of c.args.factor.now in let line = c.args.line.now in let leaving = c.args.leaving in
    let q : value_of c.in_ok-inverse.inverse ≡ whole (pos 1) /ℚ f = c.in_ok-inverse.ensures.exact ∙ ap (λ w. w /ℚ f) c.whole.ensures.value in
    if_stops_among (IsLineSum c.in_ok-first.first (value_of c.in_ok-times.times) line) (IsRelating line leaving f) c.sum.result
    (relating_sum line leaving f c.in_ok-first.first c.in_ok-inverse.inverse c.in_ok-times.times c.in_ok-first.ensures q c.in_ok-times.ensures.exact) c.sum.ensures.stop
