use Rattle.std.proofs.Common.{◌≡◌, ◌∙◌, ◌*ℤ◌, ◌*◌, ◌/◌, ◌<◌, ◌≤◌, refl, sym, ap, ap₂, subst, rules, arith, pos, unsigned_abs, int_div, FitsSigned, to_z, of_z}
use Rattle.std.proofs.Math.IntN.{nat_abs}
use Rattle.std.proofs.Math.Nat.{pos_of_dvd_of_pos, div-le_self}
use Rattle.std.specs.Int.{w128, ◌∣◌}
use Rattle.std.proofs.lemmas.Int.{to_z-of_z, to_z_pos}
use Rattle.std.proofs.lemmas.Nat.Gcd.{le_of_dvd}
use Rattle.lq_base_numbers.specs.Rationals.Reduction.{quotient-mul}
use Rattle.lq_base_numbers.specs.Rationals.Rational.{ratio}
use Rattle.lq_base_numbers.specs.Fractions.Value.{value_of, denom_of}
use Rattle.lq_prover_simplex.proofs.Numerators.{first_scaled, scales_second, scale_some}
use Rattle.lq_prover_simplex.proofs.merge.scale.Goals as goal

pub over-requires-clause-small : goal.over-requires-clause-small
over-requires-clause-small c = let l = le_of_dvd c.requires.right_some c.gcd-shared.ensures.1 in omega (arith, c.requires.right_small, l)

pub nonzero_div-left : goal.nonzero_div-left
nonzero_div-left c = pos_of_dvd_of_pos c.gcd-both.ensures.0 c.requires.left_some

pub invariant_of-result : goal.invariant_of-result
invariant_of-result c =
    let q = denom_of c.args.times.now in
    let fits : FitsSigned w128 c.denom.result = search rules in
    let is_q : nat_abs (to_z w128 (of_z w128 c.denom.result)) ≡ q = ap nat_abs (to_z-of_z w128 c.denom.result fits ∙ c.denom.ensures.denom) in
    record {
      positive = scale_some q c.args.right c.gcd-shared.result c.args.left c.gcd-both.result (c.in_ok-other.other / c.gcd-both.result) c.in_ok-other.other c.in_ok-denominator.denominator
          c.args.times.now.positive c.requires.right_some c.requires.left_some c.gcd-shared.ensures.1 (c.in_ok-other.ensures.value ∙ ap (λ k. k * (c.args.right / c.gcd-shared.result)) is_q)
          c.gcd-both.ensures.1 refl c.in_ok-denominator.ensures.value;
      small = c.in_ok-denominator.ensures.small;
    }

pub returns : goal.returns
returns c =
    let q = denom_of c.args.times.now in let g = c.gcd-shared.result in let h = c.gcd-both.result in let b = c.args.right in let a = c.args.left in
    let other = c.in_ok-other.other in let own = other / h in let d = c.in_ok-denominator.denominator in
    let fits : FitsSigned w128 c.denom.result = search rules in
    let is_q : nat_abs (to_z w128 (of_z w128 c.denom.result)) ≡ q = ap nat_abs (to_z-of_z w128 c.denom.result fits ∙ c.denom.ensures.denom) in
    let is_other : other ≡ q * (b / g) = c.in_ok-other.ensures.value ∙ ap (λ k. k * (b / g)) is_q in
    let p = c.numer-numerator.result in
    let numer_fits : FitsSigned w128 p = search rules in
    let numer : to_z w128 (of_z w128 p) ≡ p = to_z-of_z w128 p numer_fits in
    let divides : g ∣ unsigned_abs p = subst (λ k. g ∣ k) (c.unsigned_abs.ensures.value ∙ ap unsigned_abs numer) c.gcd-shared.ensures.0 in
    let is_p : c.over.result *ℤ pos g ≡ p = ap (λ z. z *ℤ pos g) (c.over.ensures ∙ ap (λ z. int_div z (pos g)) numer) ∙ quotient-mul p g divides in
    let some : 0 < d = scale_some q b g a h own other d c.args.times.now.positive c.requires.right_some c.requires.left_some c.gcd-shared.ensures.1 is_other c.gcd-both.ensures.1 refl c.in_ok-denominator.ensures.value in
    let less : own ≤ other = div-le_self other h in
    let own_is : to_z w128 own ≡ pos own = to_z_pos w128 own (let s = c.in_ok-other.ensures.small in omega arith) in
    let rest : a / h ≤ a = div-le_self a h in
    let rest_is : to_z w128 (a / h) ≡ pos (a / h) = to_z_pos w128 (a / h) (let s = c.requires.left_small in omega arith) in
    let t = c.in_ok-times.ensures in
    let over_fits : FitsSigned w128 c.over.result = search rules in
    let is_m : to_z w128 (of_z w128 c.in_ok-times.times) ≡ c.over.result *ℤ pos (a / h) =
    to_z-of_z w128 c.in_ok-times.times (subst (λ z. FitsSigned w128 z) (sym t.1) t.0) ∙ t.1 ∙ ap₂ (λ x y. x *ℤ y) (to_z-of_z w128 c.over.result over_fits) rest_is in
    record {
      first = λ n. ap (λ z. ratio (z *ℤ n) d) own_is ∙ first_scaled n a own d c.requires.left_some some c.in_ok-denominator.ensures.value;
      second = scales_second (value_of c.args.times.now) p c.over.result (to_z w128 (of_z w128 c.in_ok-times.times)) q b g a h own other d (ap (λ z. ratio z q) (sym c.numer-numerator.ensures.numer))
          c.args.times.now.positive c.requires.right_some some c.gcd-shared.ensures.1 is_p is_other c.gcd-both.ensures.0 c.gcd-both.ensures.1 refl c.in_ok-denominator.ensures.value is_m;
    }
