use Rattle.std.proofs.Common.{ℕ, List, ap, of_z}
use Rattle.std.specs.Int.{w128}
use Rattle.std.proofs.lemmas.List.{get_or-set_other}
use Rattle.lq_prover_differences.specs.Passes.{blank, vertex_at}
use Rattle.lq_prover_differences.proofs.Fallen.{front_pushed, front_kept}
use Rattle.lq_prover_differences.proofs.pass.fall.Goals as goal
use Rattle.lq_prover_differences.proofs.pass.fall.Goals.{then-vertices-at, else-vertices-at}

pub returns-clause-front : goal.returns-clause-front
returns-clause-front c = λ order settled front.
    let fallen : List ℕ = c.args.fallen.now.items in
    elim c.if-vertices-at.branch [
      | then-vertices-at w ↦ rw w.fallen-is
          (front_pushed fallen w.push_reserved.new.self.items settled (vertex_at c.args.vertices.now) _ order c.args.at front w.push_reserved.ensures.items (λ u n. get_or-set_other c.args.vertices.now c.args.at u _ blank n))
      | else-vertices-at w ↦ rw w.fallen-is
          (front_kept fallen settled (vertex_at c.args.vertices.now) _ order c.args.at front (λ e. w.if-vertices-at.false (ap (λ z. of_z w128 z) e)) (λ u n. get_or-set_other c.args.vertices.now c.args.at u _ blank n))
    ]
