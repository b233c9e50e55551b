use Rattle.std.proofs.Common.{◌≡◌, arith, subst, ap, ◌∙◌, unsigned_abs}
use Rattle.std.specs.Int.{IsGcd, w128}
use Rattle.std.proofs.Math.Nat.{pos_of_dvd_of_pos}
use Rattle.std.proofs.lemmas.Int.{to_z-of_z}
use Rattle.std.proofs.lemmas.Nat.Gcd.{le_of_dvd}
use Rattle.lq_base_numbers.proofs.fractions.divisor.common.Goals as goal

pub returns-clause-divisor : goal.returns-clause-divisor
returns-clause-divisor c =
    let e : c.unsigned_abs.result ≡ unsigned_abs c.args.numer =
    c.unsigned_abs.ensures.value ∙ ap unsigned_abs (to_z-of_z w128 c.args.numer c.ranges.numer) in
    subst (λ n. IsGcd n c.args.denom c.gcd.result) e c.gcd.ensures

pub returns-clause-some : goal.returns-clause-some
returns-clause-some c = pos_of_dvd_of_pos c.gcd.ensures.1 c.requires.some

pub returns-clause-small : goal.returns-clause-small
returns-clause-small c = omega (arith, le_of_dvd c.requires.some c.gcd.ensures.1)
