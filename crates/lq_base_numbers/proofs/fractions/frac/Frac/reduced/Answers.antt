use Rattle.std.proofs.Common.{arith, rules, subst, FitsSigned}
use Rattle.std.proofs.Math.Nat.{div-le_self, eq-one_of_dvd-one}
use Rattle.std.proofs.lemmas.Nat.Gcd.{le_of_dvd}
use Rattle.std.specs.Int.{w128, ◌∣◌}
use Rattle.lq_base_numbers.proofs.FractionsLemmas.Products.{reduced_read}
use Rattle.lq_base_numbers.proofs.FractionsLemmas.Shared.{gcd_within, within_read}
use Rattle.lq_base_numbers.proofs.fractions.frac.Frac.reduced.Goals as goal

pub common-divisor-requires-clause-small : goal.common-divisor-requires-clause-small
common-divisor-requires-clause-small c = omega (arith, c.requires.small, le_of_dvd c.requires.some c.requires.part)

pub invariant_of-result : goal.invariant_of-result
invariant_of-result c =
    record { positive = c.requires.some; small = c.requires.small; lowest = λ k p q. eq-one_of_dvd-one (subst (λ n. k ∣ n) c.if-shared-eq1.true (within_read c.args.numer _ _ c.ranges.numer c.requires.within k p q)) }

pub invariant_of-result-2 : goal.invariant_of-result-2
invariant_of-result-2 c =
    let fits : FitsSigned w128 c.over.result = search rules in
    let gcd = gcd_within c.args.numer _ _ _ c.ranges.numer c.requires.part c.requires.within c.common-divisor.ensures.divisor in
    let r = reduced_read _ _ _ c.over.result c.quotient.result c.ranges.numer fits c.requires.some gcd c.over.ensures c.quotient.ensures in
    let small = c.requires.small in
    record { positive = r.positive; small = omega (arith, c.quotient.ensures, div-le_self c.args.denom c.common-divisor.result); lowest = r.lowest }

pub returns : goal.returns
returns c =
    let fits : FitsSigned w128 c.over.result = search rules in
    let gcd = gcd_within c.args.numer _ _ _ c.ranges.numer c.requires.part c.requires.within c.common-divisor.ensures.divisor in
    (reduced_read _ _ _ c.over.result c.quotient.result c.ranges.numer fits c.requires.some gcd c.over.ensures c.quotient.ensures).same
