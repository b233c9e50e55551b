use Rattle.std.proofs.Common.{◌∙◌, ap, rules, FitsSigned, pos}
use Rattle.std.specs.Int.{w128}
use Rattle.std.proofs.lemmas.Int.{to_z-of_z}
use Rattle.std.proofs.lemmas.Result.{IfOk-weaker}
use Rattle.lq_base_numbers.specs.Rationals.Rational.{whole, neg_ℚ}
use Rattle.lq_base_numbers.specs.Fractions.Value.{value_of}
use Rattle.lq_prover_simplex.proofs.Readings.{whole_apart, bound_is}
use Rattle.lq_base_numbers.specs.declared.fractions.past.NumOp.TheVariants.{Div}
use Rattle.lq_prover_simplex.specs.Operations.{IsBounding}
use Rattle.lq_prover_simplex.proofs.Operations.{past_carried, bounding_is}
use Rattle.lq_prover_simplex.proofs.reading.bound_value.Goals as goal

pub div-requires : goal.div-requires
div-requires c =
    let fits : FitsSigned w128 (pos c.args.divisor) = search rules in
    whole_apart c.args.divisor (value_of c.whole.result) c.requires.some (c.whole.ensures.value ∙ ap whole (to_z-of_z w128 (pos c.args.divisor) fits))

pub returns-clause-exact : goal.returns-clause-exact
returns-clause-exact c =
    let fits : FitsSigned w128 (pos c.args.divisor) = search rules in
    IfOk-weaker c.div.result _ _
    (λ q h. bound_is c.args.turned c.args.divisor (value_of c.whole.result) (value_of c.in_ok-numerator.numerator) (value_of q) (neg_ℚ (whole c.args.constant)) c.requires.some
    (c.whole.ensures.value ∙ ap whole (to_z-of_z w128 (pos c.args.divisor) fits)) h
    (c.in_ok-numerator.ensures.exact ∙ ap (λ z. neg_ℚ (whole z)) (to_z-of_z w128 c.args.constant c.ranges.constant)))
    c.div.ensures.exact

pub returns-clause-stop : goal.returns-clause-stop
returns-clause-stop c =
    let fits : FitsSigned w128 (pos c.args.divisor) = search rules in
    let n = c.in_ok-numerator.numerator in let w = c.whole.result in
    past_carried (IsBounding c.args.constant c.args.divisor) c.div.result Div n w c.div.ensures.past c.div.ensures.carries
    (bounding_is c.args.constant c.args.divisor c.args.turned (value_of n) (value_of w)
    (c.in_ok-numerator.ensures.exact ∙ ap (λ z. neg_ℚ (whole z)) (to_z-of_z w128 c.args.constant c.ranges.constant))
    (c.whole.ensures.value ∙ ap whole (to_z-of_z w128 (pos c.args.divisor) fits)))
