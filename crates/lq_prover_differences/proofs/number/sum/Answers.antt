use Rattle.std.proofs.Common.{FitsSigned, subst, rules}
use Rattle.std.specs.Int.{w128}
use Rattle.std.proofs.Math.IntN.{◌+ℤ◌}
use Rattle.lq_prover_differences.proofs.Numbers.{whole_past, sum_read}
use Rattle.lq_prover_differences.proofs.number.sum.Goals as goal

pub returns-in_default-clause-stop : goal.returns-in_default-clause-stop
returns-in_default-clause-stop c = λ n h.
    let fl : FitsSigned w128 c.args.left = search rules in
    let fr : FitsSigned w128 c.args.right = search rules in (
      record {
        past = whole_past (λ x y. x +ℤ y) c.args.left c.args.right _ _ _ _ c.whole.ensures.numer c.whole.ensures.denom c.whole-in_default.ensures.numer c.whole-in_default.ensures.denom
            c.in_default.ensures;
        left = c.whole.ensures.denom;
        right = c.whole-in_default.ensures.denom;
      },
      h (subst (λ z. ¬ (FitsSigned w128 z)) (sum_read c.args.left c.args.right fl fr) c.in_default.ensures),
    )
