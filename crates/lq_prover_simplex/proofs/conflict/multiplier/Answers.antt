use Rattle.std.proofs.Common.{◌≡◌, ◌∙◌, sym, ap, subst, rules, refl, FitsSigned, true, false, Err}
use Rattle.std.specs.Int.{w128}
use Rattle.std.proofs.lemmas.Int.{to_z-of_z}
use Rattle.std.proofs.lemmas.Result.{IfOk-weaker}
use Rattle.lq_base_numbers.specs.Rationals.Rational.{whole}
use Rattle.lq_base_numbers.specs.Rationals.RationalQuotient.{◌/ℚ◌}
use Rattle.lq_base_numbers.specs.Fractions.Value.{value_of}
use Rattle.lq_prover_simplex.proofs.Signs.{divisor_apart, multiplier_is}
use Rattle.lq_base_numbers.specs.declared.fractions.past.NumOp.TheVariants.{Div, Neg}
use Rattle.lq_prover_simplex.specs.Operations.{IsShared}
use Rattle.lq_prover_simplex.proofs.Operations.{past_in, past_was, past_carried}
use Rattle.lq_prover_simplex.proofs.conflict.multiplier.Goals as goal

pub div-requires : goal.div-requires
div-requires c =
    let fits : FitsSigned w128 c.args.bound.now.divisor = search rules in
    divisor_apart c.args.bound.now.divisor (value_of c.whole.result) c.requires (c.whole.ensures.value ∙ ap whole (to_z-of_z w128 c.args.bound.now.divisor fits))

pub returns-then-is_negated-clause-exact : goal.returns-then-is_negated-clause-exact
returns-then-is_negated-clause-exact c =
    let fits : FitsSigned w128 c.args.bound.now.divisor = search rules in
    IfOk-weaker c.neg.result _ _
    (λ m h. multiplier_is c.args.side c.args.bound.now true (value_of c.whole.result) (value_of c.in_ok-quotient.quotient) (value_of c.args.factor.now) (value_of m) c.requires
    (c.whole.ensures.value ∙ ap whole (to_z-of_z w128 c.args.bound.now.divisor fits)) c.in_ok-quotient.ensures.exact (sym c.if-is_negated.true ∙ c.is_negated.ensures) h)
    c.neg.ensures.exact

pub returns-else-is_negated-clause-exact : goal.returns-else-is_negated-clause-exact
returns-else-is_negated-clause-exact c =
    let fits : FitsSigned w128 c.args.bound.now.divisor = search rules in
    multiplier_is c.args.side c.args.bound.now false (value_of c.whole.result) (value_of c.in_ok-quotient.quotient) (value_of c.args.factor.now) (value_of c.in_ok-quotient.quotient) c.requires
    (c.whole.ensures.value ∙ ap whole (to_z-of_z w128 c.args.bound.now.divisor fits)) c.in_ok-quotient.ensures.exact (sym c.if-is_negated.false ∙ c.is_negated.ensures) refl

pub returns-in_err-quotient-clause-stop : goal.returns-in_err-quotient-clause-stop
returns-in_err-quotient-clause-stop c =
    let fits : FitsSigned w128 c.args.bound.now.divisor = search rules in
    let f = value_of c.args.factor.now in let d = whole c.args.bound.now.divisor in
    let Is = IsShared f d in
    let e = c.in_err-quotient.field-0.0 in
    let was : c.from_residual.result ≡ Err e = search rules in
    past_was Is c.from_residual.result e was
    (past_in Is e Div c.args.factor.now c.whole.result c.in_err-quotient.ensures.carries c.in_err-quotient.ensures.past
    (subst (λ y. Is Div f y) (sym (c.whole.ensures.value ∙ ap whole (to_z-of_z w128 c.args.bound.now.divisor fits))) IsShared.quotient))

pub returns-then-is_negated-clause-stop : goal.returns-then-is_negated-clause-stop
returns-then-is_negated-clause-stop c =
    let fits : FitsSigned w128 c.args.bound.now.divisor = search rules in
    let f = value_of c.args.factor.now in let d = whole c.args.bound.now.divisor in
    let Is = IsShared f d in
    let q = c.in_ok-quotient.quotient in
    let is : value_of q ≡ f /ℚ d = c.in_ok-quotient.ensures.exact ∙ ap (λ y. f /ℚ y) (c.whole.ensures.value ∙ ap whole (to_z-of_z w128 c.args.bound.now.divisor fits)) in
    past_carried Is c.neg.result Neg q q c.neg.ensures.past c.neg.ensures.carries (subst (λ x. Is Neg x x) (sym is) IsShared.negation)
