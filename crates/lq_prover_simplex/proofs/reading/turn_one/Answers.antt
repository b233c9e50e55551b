use Rattle.std.proofs.Common.{◌≡◌, ◌∙◌, sym, subst, ap, rules, FitsSigned, neg_ℤ}
use Rattle.std.specs.Int.{w128}
use Rattle.std.proofs.lemmas.Int.{to_z-of_z}
use Rattle.lq_base_numbers.specs.Rationals.Rational.{whole}
use Rattle.lq_base_numbers.specs.Fractions.Value.{value_of}
use Rattle.lq_base_numbers.specs.declared.fractions.past.NumOp.TheVariants.{Neg}
use Rattle.lq_prover_simplex.specs.Operations.{IsTurning}
use Rattle.lq_prover_simplex.proofs.Readings.{negation_past}
use Rattle.lq_prover_simplex.proofs.reading.turn_one.Goals as goal

pub returns-in_default-clause-stop : goal.returns-in_default-clause-stop
returns-in_default-clause-stop c = λ parts k term at.
    let n = c.args.coefficient in
    let fits : FitsSigned w128 n = search rules in
    let one : value_of c.whole.result ≡ whole n = c.whole.ensures.value ∙ ap whole (to_z-of_z w128 n fits) in
    let two : value_of c.whole-in_default.result ≡ whole n = c.whole-in_default.ensures.value ∙ ap whole (to_z-of_z w128 n fits) in
    let Is = IsTurning parts in (
      negation_past n (value_of c.whole.result) one (λ f. c.in_default.ensures (subst (λ z. FitsSigned w128 (neg_ℤ z)) (sym (to_z-of_z w128 n fits)) f)),
      subst (λ x. Is Neg x (value_of c.whole-in_default.result)) (sym one) (subst (λ y. Is Neg (whole n) y) (sym two) (IsTurning.negated k term n at)),
    )
