use Rattle.std.proofs.Common.{Err, ◌≡◌, ℕ, FitsSigned, get_or, subst, rules}
use Rattle.std.specs.Int.{w128}
use Rattle.std.proofs.Math.IntN.{ℤ}
use Rattle.lq_prover_differences.specs.declared.vertex.Vertex.{Vertex}
use Rattle.lq_prover_differences.specs.Passes.{blank}
use Rattle.lq_prover_differences.proofs.Numbers.{difference_read, large_apart}
use Rattle.lq_prover_differences.proofs.table.measure.Goals as goal

pub returns-in_err-difference-clause-stop : goal.returns-in_err-difference-clause-stop
returns-in_err-difference-clause-stop c =
    let k : ℕ = c.loop-vertex.vertex-index in
    let x : Vertex = get_or c.args.vertices.now k blank in
    let y : Vertex = get_or c.args.vertices.now 0 blank in
    let fx : FitsSigned w128 x.kept.value = search rules in
    let fy : FitsSigned w128 y.kept.value = search rules in
    let was : c.from_residual.result ≡ Err c.in_err-difference.field-0.0 = search rules in
    rw was (λ n near. c.in_err-difference.ensures.stop n (λ past. large_apart x.kept.value y.kept.value n (near.apart k 0) (near.apart 0 k)
    (subst (λ (z : ℤ). ¬ (FitsSigned w128 z)) (difference_read x.kept.value y.kept.value fx fy) past)))
