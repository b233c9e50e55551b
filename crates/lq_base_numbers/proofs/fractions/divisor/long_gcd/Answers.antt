use Rattle.std.proofs.Common.{◌≡◌, ◌*◌, ◌%◌, ◌^◌, ◌≤◌, min, arith, ap, sym, subst, ◌∙◌}
use Rattle.std.specs.Int.{IsGcd, trailing_zeros, w128}
use Rattle.std.proofs.lemmas.Nat.Gcd.{le_of_dvd}
use Rattle.lq_base_numbers.proofs.FractionsLemmas.Twos.{twos_shared}
use Rattle.lq_base_numbers.proofs.fractions.divisor.long_gcd.Goals as goal

pub returns : goal.returns
returns c =
    let gcd =
    twos_shared c.args.a c.args.b c.long_odd_part.result c.long_odd_part-2.result (trailing_zeros w128 c.args.a) (trailing_zeros w128 c.args.b) c.long_odd_gcd.result
    c.long_odd_part.ensures.odd c.long_odd_part-2.ensures.odd c.long_odd_part.ensures.times c.long_odd_part-2.ensures.times c.long_odd_gcd.ensures in
    let most : c.long_odd_gcd.result * 2 ^ min (trailing_zeros w128 c.args.a) (trailing_zeros w128 c.args.b) ≤ c.args.a = le_of_dvd c.requires.first gcd.0 in
    let same : c.long_odd_gcd.result * 2 ^ c.min-twos.result % 340282366920938463463374607431768211456 ≡ c.long_odd_gcd.result * 2 ^ min (trailing_zeros w128 c.args.a) (trailing_zeros w128 c.args.b) =
    ap (λ n. c.long_odd_gcd.result * 2 ^ n % 340282366920938463463374607431768211456) c.min-twos.ensures ∙ omega (arith, most, c.ranges.a.fits) in
    subst (λ n. IsGcd c.args.a c.args.b n) (sym same) gcd
