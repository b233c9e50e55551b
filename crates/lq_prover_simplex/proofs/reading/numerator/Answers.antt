use Rattle.std.proofs.Common.{◌≡◌, ◌∙◌, ap, sym, subst}
use Rattle.std.specs.Int.{w128}
use Rattle.std.proofs.lemmas.Int.{to_z-of_z}
use Rattle.lq_base_numbers.specs.Rationals.Rational.{whole}
use Rattle.lq_base_numbers.specs.Fractions.Value.{value_of}
use Rattle.lq_base_numbers.specs.declared.fractions.past.NumOp.TheVariants.{Neg}
use Rattle.lq_prover_simplex.specs.Operations.{IsBounding}
use Rattle.lq_prover_simplex.proofs.Operations.{past_carried}
use Rattle.lq_prover_simplex.proofs.reading.numerator.Goals as goal

pub returns-else-turned-clause-stop : goal.returns-else-turned-clause-stop
returns-else-turned-clause-stop c = λ g.
    let n = c.whole-constant.result in
    let is : value_of n ≡ whole c.args.constant = c.whole-constant.ensures.value ∙ ap whole (to_z-of_z w128 c.args.constant c.ranges.constant) in
    past_carried (IsBounding c.args.constant g) c.neg.result Neg n n c.neg.ensures.past c.neg.ensures.carries (subst (λ x. IsBounding c.args.constant g Neg x x) (sym is) IsBounding.negated)
