use Rattle.std.proofs.Common.{Err, ◌≡◌, ◌-ℤ◌, [], ◌∷◌, FitsSigned, pos, arith, sym, subst, rules}
use Rattle.std.specs.Int.{w128}
use Rattle.std.proofs.Math.IntN.{ℤ}
use Rattle.std.proofs.lemmas.Int.{to_z-of_z}
use Rattle.lq_prover_differences.specs.declared.arc.Edge.{Edge}
use Rattle.lq_prover_differences.proofs.Rows.{large_weight}
use Rattle.lq_prover_differences.proofs.graph.add_arcs.Goals as goal

pub returns-in_err-cost-clause-stop : goal.returns-in_err-cost-clause-stop
returns-in_err-cost-clause-stop c =
    let e : Edge = c.args.edge.now in
    let fw : FitsSigned w128 e.weight = search rules in
    let was : c.from_residual.result ≡ Err c.in_err-cost.field-0.0 = search rules in
    rw was (λ n h. c.in_err-cost.ensures.stop n (λ past.
    let l = large_weight (e ∷ []) 0 e (omega arith) (λ f. past (subst (λ (z : ℤ). FitsSigned w128 (pos 0 -ℤ z)) (sym (to_z-of_z w128 e.weight fw)) f)) in omega arith))
