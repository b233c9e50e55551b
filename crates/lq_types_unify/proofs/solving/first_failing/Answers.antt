use Rattle.std.proofs.Common.{ℕ, ◌+◌, ◌-◌, ◌/◌, length, take, sym, subst, arith, take_all}
use Rattle.lq_types_unify.specs.Nodes.{form_at}
use Rattle.lq_types_unify.specs.Solution.{HasSolution, HasNoSolution}
use Rattle.lq_types_unify.proofs.Beginning.{fewer}
use Rattle.lq_types_unify.proofs.solving.first_failing.Goals as goal

pub halves-init : goal.halves-init
halves-init c = record {
  order = omega arith;
  within = omega arith;
  fails = subst (HasNoSolution (form_at c.args.arena.now)) (sym (take_all (length c.args.equations.now) c.args.equations.now (omega arith))) (c.in_ok-is_solvable.ensures.no c.if-branch.false);
  before = λ j h. absurd (omega arith);
}

pub halves-preserved-then-branch-2 : goal.halves-preserved-then-branch-2
halves-preserved-then-branch-2 c =
    let i = c.halves.invariant in
    let middle : ℕ = c.halves.low + (c.halves.high - c.halves.low) / 2 in
    let here : HasSolution (form_at c.args.arena.now) (take middle c.args.equations.now) = c.in_ok-is_solvable-2.ensures.yes c.if-branch-2.true in
    record {
      order = let o = i.order in omega arith;
      within = i.within;
      fails = i.fails;
      before = λ j h. fewer (form_at c.args.arena.now) c.args.equations.now j middle (omega arith) (let o = i.order in let w = i.within in omega arith) here;
    }

pub halves-preserved : goal.halves-preserved
halves-preserved c =
    let i = c.halves.invariant in
    record {
      order = let o = i.order in omega arith;
      within = let o = i.order in let w = i.within in omega arith;
      fails = c.in_ok-is_solvable-2.ensures.no c.if-branch-2.false;
      before = i.before;
    }
