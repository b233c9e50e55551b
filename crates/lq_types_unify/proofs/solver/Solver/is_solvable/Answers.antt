use Rattle.std.proofs.Common.{◌≡◌, ℕ, ◌+◌, Bool, List, true, IfOk, length, subst, sym}
use Rattle.lq_types_unify.specs.declared.arena.Equation.{Equation}
use Rattle.lq_types_unify.specs.Nodes.{form_at}
use Rattle.lq_types_unify.specs.Solution.{HasSolution}
use Rattle.lq_types_unify.specs.Value.{value}
use Rattle.lq_types_unify.specs.Knowing.{Knows}
use Rattle.lq_types_unify.proofs.Principal.{principal}
use Rattle.lq_types_unify.proofs.solver.Solver.is_solvable.Goals.{in-Some, in-None}
use Rattle.lq_types_unify.proofs.solver.Solver.is_solvable.Goals as goal

pub returns-clause-yes : goal.returns-clause-yes
returns-clause-yes c =
    let a = c.args.arena.now in
    let new = c.order.new.self in
    let Q = λ (yes : Bool). yes ≡ true → (equations : List Equation) → Knows a equations c.args.self.now → HasSolution (form_at a) equations in
    elim c.match-branch-2.branch [
      | in-Some w ↦ subst (λ r. IfOk r Q) (sym w.result-is) (λ t equations k.
          let s = rw w.in-Some.is at c.in_ok-order.ensures.some in
          let bound : ℕ = length w.in-Some.field-0.items + 1 in
          let p = principal (form_at a) (length a.nodes.items) new.parents.items new.shapes.items new.found.items equations bound (c.in_ok-order.ensures.knows equations k).known s.ranked in
          (value bound (form_at a) new.parents.items new.shapes.items, p.solves))
      | in-None w ↦ subst (λ r. IfOk r Q) (sym w.result-is) (λ t. absurd (cc))
    ]
