use Rattle.std.proofs.Common.{◌≡◌, ◌∙◌, sym, ap, subst, rules, pos, get_or, take, unsigned_abs, ℕ, ℤ, FitsSigned}
use Rattle.std.specs.Int.{w128, ◌∣◌}
use Rattle.std.proofs.lemmas.Int.{to_z-of_z}
use Rattle.std.proofs.lemmas.List.{take_more}
use Rattle.std.proofs.lemmas.Nat.Gcd.{dvd-zero}
use Rattle.lq_prover_simplex.proofs.Readings.{divides_more, divides_push, greatest_push}
use Rattle.lq_prover_simplex.proofs.reading.divisor.Goals as goal

pub loop-coefficient-init : goal.loop-coefficient-init
loop-coefficient-init c = record { divides = tt; greatest = λ e all. dvd-zero e }

pub loop-coefficient-preserved : goal.loop-coefficient-preserved
loop-coefficient-preserved c =
    let parts = c.args.parts.now in let i = c.loop-coefficient.coefficient-index in
    let p : ℕ × ℤ = get_or parts i (0, pos 0) in
    let fits : FitsSigned w128 p.1 = search rules in
    let size : c.unsigned_abs.result ≡ unsigned_abs p.1 = c.unsigned_abs.ensures.value ∙ ap unsigned_abs (to_z-of_z w128 p.1 fits) in
    let gcd = c.gcd-shared.result in let before = c.loop-coefficient.invariant in
    rw (take_more parts i (0, pos 0) c.loop-coefficient-test.true)
    (record {
      divides = divides_push gcd (take i parts) p (divides_more c.loop-coefficient.shared gcd (take i parts) before.divides c.gcd-shared.ensures.0)
          (subst (λ n. gcd ∣ n) size c.gcd-shared.ensures.1);
      greatest = greatest_push c.loop-coefficient.shared gcd (take i parts) p before.greatest
          (λ e shared own. c.gcd-shared.ensures.2 e shared (subst (λ n. e ∣ n) (sym size) own));
    })
