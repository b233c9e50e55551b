use Rattle.std.proofs.Common.{◌≡◌, ◌∙◌, ◌*ℤ◌, refl, sym, ap, rules, pos, get_or, take, FitsSigned, int_div, to_z, of_z}
use Rattle.std.specs.Int.{w128}
use Rattle.std.proofs.lemmas.Int.{to_z-of_z}
use Rattle.std.proofs.lemmas.List.{take_more}
use Rattle.lq_base_numbers.specs.Rationals.Reduction.{quotient-mul}
use Rattle.lq_prover_simplex.specs.declared.whole.Part.{Part}
use Rattle.lq_prover_simplex.proofs.Numerators.{divided_push, part_divided}
use Rattle.lq_prover_simplex.proofs.merge.divided.Goals as goal

pub loop-part-preserved : goal.loop-part-preserved
loop-part-preserved c =
    let parts = c.args.parts.now in let i = c.loop-part.part-index in
    let none : Part = record { variable = 0; numerator = pos 0 } in
    let p : Part = get_or parts i none in
    let fits : FitsSigned w128 p.numerator = search rules in
    let exact : c.quotient-numerator.result *ℤ pos c.args.by ≡ p.numerator =
    ap (λ z. z *ℤ pos c.args.by) (c.quotient-numerator.ensures ∙ ap (λ z. int_div z (pos c.args.by)) (to_z-of_z w128 p.numerator fits))
    ∙ quotient-mul p.numerator c.args.by (part_divided c.args.by parts i none c.requires.divides c.loop-part-test.true) in
    let made : FitsSigned w128 c.quotient-numerator.result = search rules in
    rw (take_more parts i none c.loop-part-test.true, c.in_ok-push.ensures.items)
    (divided_push c.args.by (take i parts) c.loop-part.divided.items p (record { variable = p.variable; numerator = to_z w128 (of_z w128 c.quotient-numerator.result) }) c.loop-part.invariant refl
    (sym (ap (λ z. z *ℤ pos c.args.by) (to_z-of_z w128 c.quotient-numerator.result made) ∙ exact)))
