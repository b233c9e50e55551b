use Rattle.std.proofs.Common.{◌≡◌, ◌*◌, ◌%◌, ◌^◌, ◌≤◌, min, arith, ap, sym, subst, ◌∙◌}
use Rattle.std.specs.Int.{IsGcd, trailing_zeros, w64}
use Rattle.std.proofs.lemmas.Nat.Gcd.{le_of_dvd}
use Rattle.lq_base_numbers.proofs.FractionsLemmas.Twos.{twos_shared}
use Rattle.lq_base_numbers.proofs.fractions.divisor.small_gcd.Goals as goal

pub returns-else-b-eq0 : goal.returns-else-b-eq0
returns-else-b-eq0 c =
    let gcd =
    twos_shared c.args.a c.args.b c.odd_part.result c.odd_part-else-b-eq0.result (trailing_zeros w64 c.args.a) (trailing_zeros w64 c.args.b) c.odd_gcd.result
    c.odd_part.ensures.odd c.odd_part-else-b-eq0.ensures.odd c.odd_part.ensures.times c.odd_part-else-b-eq0.ensures.times c.odd_gcd.ensures in
    let most : c.odd_gcd.result * 2 ^ min (trailing_zeros w64 c.args.a) (trailing_zeros w64 c.args.b) ≤ c.args.a = le_of_dvd (omega (arith, c.if-a-eq0.false)) gcd.0 in
    let same : c.odd_gcd.result * 2 ^ c.min-twos.result % 18446744073709551616 ≡ c.odd_gcd.result * 2 ^ min (trailing_zeros w64 c.args.a) (trailing_zeros w64 c.args.b) =
    ap (λ n. c.odd_gcd.result * 2 ^ n % 18446744073709551616) c.min-twos.ensures ∙ omega (arith, most, c.ranges.a.fits) in
    subst (λ n. IsGcd c.args.a c.args.b n) (sym same) gcd
