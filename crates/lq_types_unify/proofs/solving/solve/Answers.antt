use Rattle.std.proofs.Common.{List}
use Rattle.lq_types_unify.specs.declared.arena.Equation.{Equation}
use Rattle.lq_types_unify.specs.Nodes.{form_at}
use Rattle.lq_types_unify.specs.Solution.{IsPrincipal, HasNoSolution}
use Rattle.lq_types_unify.specs.Solved.{types_of}
use Rattle.lq_types_unify.specs.Knowing.{Knows}
use Rattle.lq_types_unify.proofs.Knowing.{some_by, none_by}
use Rattle.lq_types_unify.proofs.solving.solve.Goals as goal

pub returns-clause-principal : goal.returns-clause-principal
returns-clause-principal c =
    let a = c.args.arena.now in
    let k = c.in_ok-merge.ensures.knows c.if-not-branch.false in
    some_by c.in_ok-found.found (λ s. (equations : List Equation) → Knows a equations c.merge.new.self → IsPrincipal (form_at a) equations (types_of a s))
    (λ s. IsPrincipal (form_at a) c.args.equations.now (types_of a s)) (λ s h. h c.args.equations.now k) c.in_ok-found.ensures.principal

pub returns-clause-none : goal.returns-clause-none
returns-clause-none c =
    let a = c.args.arena.now in
    let k = c.in_ok-merge.ensures.knows c.if-not-branch.false in
    none_by c.in_ok-found.found ((equations : List Equation) → Knows a equations c.merge.new.self → HasNoSolution (form_at a) equations)
    (HasNoSolution (form_at a) c.args.equations.now) (λ h. h c.args.equations.now k) c.in_ok-found.ensures.none

pub returns-then-not-branch-clause-none : goal.returns-then-not-branch-clause-none
returns-then-not-branch-clause-none c = c.in_ok-merge.ensures.none c.if-not-branch.true
