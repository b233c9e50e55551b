use Rattle.std.proofs.Common.{◌≡◌, ◌∙◌, sym, ap, subst, rules, pos, get_or, ℕ, ℤ, FitsSigned, unsigned_abs}
use Rattle.std.specs.Int.{w128, ◌∣◌}
use Rattle.std.proofs.lemmas.Int.{to_z-of_z}
use Rattle.lq_prover_simplex.proofs.Readings.{shared_bounds, divides_more, divides_first}
use Rattle.lq_prover_simplex.proofs.reading.shared.Goals as goal

pub returns-clause-divides : goal.returns-clause-divides
returns-clause-divides c = divides_more c.divisor.result c.gcd.result c.args.parts.now c.divisor.ensures.divides c.gcd.ensures.1

pub returns-clause-some : goal.returns-clause-some
returns-clause-some c =
    let p : ℕ × ℤ = get_or c.args.parts.now 0 (0, pos 0) in
    let fits : FitsSigned w128 p.1 = search rules in
    let size : c.unsigned_abs.result ≡ unsigned_abs p.1 = c.unsigned_abs.ensures.value ∙ ap unsigned_abs (to_z-of_z w128 p.1 fits) in
    (shared_bounds c.gcd.result c.args.parts.now (0, pos 0) c.requires fits (subst (λ n. c.gcd.result ∣ n) size c.gcd.ensures.0)).0

pub returns-clause-small : goal.returns-clause-small
returns-clause-small c =
    let p : ℕ × ℤ = get_or c.args.parts.now 0 (0, pos 0) in
    let fits : FitsSigned w128 p.1 = search rules in
    let size : c.unsigned_abs.result ≡ unsigned_abs p.1 = c.unsigned_abs.ensures.value ∙ ap unsigned_abs (to_z-of_z w128 p.1 fits) in
    (shared_bounds c.gcd.result c.args.parts.now (0, pos 0) c.requires fits (subst (λ n. c.gcd.result ∣ n) size c.gcd.ensures.0)).1

pub returns-clause-greatest : goal.returns-clause-greatest
returns-clause-greatest c = λ e all.
    let p : ℕ × ℤ = get_or c.args.parts.now 0 (0, pos 0) in
    let fits : FitsSigned w128 p.1 = search rules in
    let size : c.unsigned_abs.result ≡ unsigned_abs p.1 = c.unsigned_abs.ensures.value ∙ ap unsigned_abs (to_z-of_z w128 p.1 fits) in
    c.gcd.ensures.2 e (subst (λ n. e ∣ n) (sym size) (divides_first e c.args.parts.now (0, pos 0) c.requires all)) (c.divisor.ensures.greatest e all)
