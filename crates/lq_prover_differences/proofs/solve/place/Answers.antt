use Rattle.std.proofs.Common.{◌≡◌, get_or, refl, subst, rules, Err, FitsSigned}
use Rattle.std.specs.Int.{w128}
use Rattle.lq_prover_differences.specs.declared.vertex.Vertex.{Vertex}
use Rattle.lq_prover_differences.specs.Passes.{blank}
use Rattle.lq_prover_differences.proofs.Numbers.{sum_read}
use Rattle.lq_prover_differences.proofs.Passing.{set_same_by, rest_set}
use Rattle.lq_prover_differences.proofs.solve.place.Goals as goal

pub returns-in_err-value-clause-stop : goal.returns-in_err-value-clause-stop
returns-in_err-value-clause-stop c =
    let x : Vertex = get_or c.args.vertices.now c.args.arc.from blank in
    let fx : FitsSigned w128 x.kept.value = search rules in
    let fc : FitsSigned w128 c.args.arc.cost = search rules in
    let was : c.from_residual.result ≡ Err c.in_err-value.field-0.0 = search rules in
    rw was (λ n h. c.in_err-value.ensures.stop n (λ past. h (subst (λ z. ¬ (FitsSigned w128 z)) (sum_read x.kept.value c.args.arc.cost fx fc) past)))

pub returns-clause-lasts : goal.returns-clause-lasts
returns-clause-lasts c = set_same_by (λ (z : Vertex). z.kept.last) c.args.vertices.now c.args.arc.to _ c.requires.to_in refl

pub returns-clause-rest : goal.returns-clause-rest
returns-clause-rest c = λ order rest. rest_set c.args.vertices.now c.args.arc.to _ order c.requires.to_in refl rest

pub returns-clause-marks : goal.returns-clause-marks
returns-clause-marks c = set_same_by (λ (z : Vertex). z.kept.touched) c.args.vertices.now c.args.arc.to _ c.requires.to_in refl
