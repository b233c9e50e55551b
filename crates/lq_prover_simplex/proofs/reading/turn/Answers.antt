use Rattle.std.proofs.Common.{◌≡◌, ◌∙◌, refl, sym, ap, rules, pos, get_or, take, slice_get, Some, Err, ℕ, ℤ, FitsSigned, to_z, of_z}
use Rattle.std.specs.Int.{w128}
use Rattle.std.proofs.lemmas.Int.{to_z-of_z}
use Rattle.std.proofs.lemmas.Option.{slice_get-get_or}
use Rattle.std.proofs.lemmas.List.{take_more}
use Rattle.lq_prover_simplex.specs.RowParts.{turned_by}
use Rattle.lq_prover_simplex.proofs.Readings.{turned_push}
use Rattle.lq_prover_simplex.specs.declared.error.TableauError.TheVariants.{Past}
use Rattle.lq_prover_simplex.specs.Operations.{IsTurning}
use Rattle.lq_prover_simplex.proofs.Operations.{stops_past}
use Rattle.lq_prover_simplex.proofs.reading.turn.Goals as goal

pub loop-term-preserved : goal.loop-term-preserved
loop-term-preserved c =
    let parts = c.args.parts.now in let i = c.loop-term.term-index in
    let p : ℕ × ℤ = get_or parts i (0, pos 0) in
    let fits : FitsSigned w128 p.1 = search rules in
    let made : FitsSigned w128 c.in_ok-coefficient.coefficient = search rules in
    rw (take_more parts i (0, pos 0) c.loop-term-test.true, c.in_ok-push.ensures.items)
    (turned_push c.args.turned (take i parts) c.loop-term.signed.items p (p.0, to_z w128 (of_z w128 c.in_ok-coefficient.coefficient)) c.loop-term.invariant refl
    (to_z-of_z w128 c.in_ok-coefficient.coefficient made ∙ c.in_ok-coefficient.ensures.exact ∙ ap (turned_by c.args.turned) (to_z-of_z w128 p.1 fits)))

pub returns-in_err-coefficient-clause-stop : goal.returns-in_err-coefficient-clause-stop
returns-in_err-coefficient-clause-stop c =
    let parts = c.args.parts.now in let i = c.loop-term.term-index in
    let p : ℕ × ℤ = get_or parts i (0, pos 0) in
    let fits : FitsSigned w128 p.1 = search rules in
    let e = c.in_err-coefficient.field-0.0 in
    let was : c.from_residual.result ≡ Err (Past e) = search rules in
    let there : slice_get parts i ≡ Some (p.0, to_z w128 (of_z w128 p.1)) =
    slice_get-get_or parts i (0, pos 0) c.loop-term-test.true ∙ ap (λ z. Some (p.0, z)) (sym (to_z-of_z w128 p.1 fits)) in
    stops_past (IsTurning parts) c.from_residual.result e was (c.in_err-coefficient.ensures.stop parts i p.0 there)
