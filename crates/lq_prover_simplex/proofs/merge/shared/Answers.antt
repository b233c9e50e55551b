use Rattle.std.proofs.Common.{◌≡◌, ◌∙◌, sym, ap, subst, rules, pos, get_or, take, unsigned_abs, FitsSigned}
use Rattle.std.specs.Int.{w128, ◌∣◌}
use Rattle.std.proofs.Math.Nat.{one-dvd, pos_of_dvd_of_pos}
use Rattle.std.proofs.lemmas.Int.{to_z-of_z}
use Rattle.std.proofs.lemmas.List.{take_more}
use Rattle.std.proofs.lemmas.Nat.Gcd.{dvd-zero, dvd_refl, dvd_trans}
use Rattle.lq_prover_simplex.specs.declared.whole.Part.{Part}
use Rattle.lq_prover_simplex.proofs.Numerators.{divides_each, parts_more, parts_push, divides_by_rest}
use Rattle.lq_prover_simplex.proofs.merge.shared.Goals as goal
use Rattle.lq_prover_simplex.proofs.merge.shared.Goals.{then-rest-ne0, else-rest-ne0}

pub returns-then-shared-eq1-clause-parts : goal.returns-then-shared-eq1-clause-parts
returns-then-shared-eq1-clause-parts c = divides_each c.args.parts.now

pub returns-then-shared-eq1-clause-denominator : goal.returns-then-shared-eq1-clause-denominator
returns-then-shared-eq1-clause-denominator c = one-dvd c.args.denominator

pub loop-part-preserved : goal.loop-part-preserved
loop-part-preserved c =
    let parts = c.args.parts.now in let i = c.loop-part.part-index in let old = c.loop-part.shared in let before = c.loop-part.invariant in
    let none : Part = record { variable = 0; numerator = pos 0 } in
    let p : Part = get_or parts i none in
    let fits : FitsSigned w128 p.numerator = search rules in
    let n = c.unsigned_abs.result in
    let size : n ≡ unsigned_abs p.numerator = c.unsigned_abs.ensures.value ∙ ap unsigned_abs (to_z-of_z w128 p.numerator fits) in
    elim c.if-rest-ne0.branch [
      | then-rest-ne0 w ↦
          let new = w.gcd-shared.result in
          rw (w.shared-is, take_more parts i none c.loop-part-test.true)
          (record {
            some = pos_of_dvd_of_pos w.gcd-shared.ensures.1 before.some;
            parts = parts_push new (take i parts) p (parts_more new old (take i parts) w.gcd-shared.ensures.1 before.parts)
                (subst (λ k. new ∣ k) size (divides_by_rest new old n w.gcd-shared.ensures.1 (subst (λ k. new ∣ k) c.remainder-rest.ensures w.gcd-shared.ensures.0)));
            denominator = dvd_trans new w.gcd-shared.ensures.1 before.denominator;
          })
      | else-rest-ne0 w ↦
          rw (w.shared-is, take_more parts i none c.loop-part-test.true)
          (record {
            some = before.some;
            parts = parts_push old (take i parts) p before.parts
                (subst (λ k. old ∣ k) size (divides_by_rest old old n (dvd_refl old) (subst (λ k. old ∣ k) (sym (sym c.remainder-rest.ensures ∙ w.if-rest-ne0.false)) (dvd-zero old))));
            denominator = before.denominator;
          })
    ]
