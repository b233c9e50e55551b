use Rattle.std.proofs.Common.{◌≡◌, ◌∙◌, ◌*ℤ◌, refl, sym, ap, rules, pos, get_or, take, ℕ, ℤ, FitsSigned, int_div, to_z, of_z}
use Rattle.std.specs.Int.{w128}
use Rattle.std.proofs.lemmas.Int.{to_z-of_z}
use Rattle.std.proofs.lemmas.List.{take_more}
use Rattle.lq_base_numbers.specs.Rationals.Reduction.{quotient-mul}
use Rattle.lq_prover_simplex.proofs.Readings.{divided_push, divides_at}
use Rattle.lq_prover_simplex.proofs.reading.divided.Goals as goal

pub loop-term-preserved : goal.loop-term-preserved
loop-term-preserved c =
    let parts = c.args.parts.now in let i = c.loop-term.term-index in
    let p : ℕ × ℤ = get_or parts i (0, pos 0) in
    let fits : FitsSigned w128 p.1 = search rules in
    let exact : c.over-coefficient.result *ℤ pos c.args.by ≡ p.1 =
    ap (λ z. z *ℤ pos c.args.by) (c.over-coefficient.ensures ∙ ap (λ z. int_div z (pos c.args.by)) (to_z-of_z w128 p.1 fits))
    ∙ quotient-mul p.1 c.args.by (divides_at c.args.by parts i (0, pos 0) c.requires.divides c.loop-term-test.true) in
    let made : FitsSigned w128 c.over-coefficient.result = search rules in
    rw (take_more parts i (0, pos 0) c.loop-term-test.true, c.in_ok-push.ensures.items)
    (divided_push (pos c.args.by) (take i parts) c.loop-term.divided.items p (p.0, to_z w128 (of_z w128 c.over-coefficient.result)) c.loop-term.invariant refl
    (sym (ap (λ z. z *ℤ pos c.args.by) (to_z-of_z w128 c.over-coefficient.result made) ∙ exact)))
