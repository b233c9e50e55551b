use Rattle.std.proofs.Common.{ℕ, ◌+◌, ◌-◌, ◌/◌, ◌<◌, subst, arith}
use Rattle.lq_types_infer.specs.Inference.Programs.{IsAttempt}
use Rattle.lq_types_infer.proofs.InferenceLemmas.Failing.{between_all, between_solved, between_failed, between_same, between_next}
use Rattle.lq_types_infer.proofs.inference.program.Program.first_failing.Goals as goal
use Rattle.lq_types_infer.proofs.inference.program.Program.first_failing.Goals.{in-Solved, in-Failed}

pub halves-init : goal.halves-init
halves-init c = between_all c.args.self.now c.args.failed c.requires.ready c.requires.failed c.requires.cannot

pub halves-preserved-after-branch-2 : goal.halves-preserved-after-branch-2
halves-preserved-after-branch-2 c =
    let middle : ℕ = c.halves.low + (c.halves.high - c.halves.low) / 2 in
    let l : middle < c.halves.high = let x = c.halves.invariant.order in let y = c.halves-test.true in omega arith in
    elim c.match-branch-2.branch [
      | in-Solved w ↦ between_same c.args.self.now middle c.halves.high _ _ w.low-is w.high-is
          (between_solved c.args.self.now c.halves.low c.halves.high middle _ c.halves.invariant l (subst (IsAttempt c.args.self.now middle) w.in-Solved.is c.in_ok-count.ensures))
      | in-Failed w ↦ between_same c.args.self.now c.halves.low w.in-Failed.count _ _ w.low-is w.high-is
          (between_failed c.args.self.now c.halves.low c.halves.high middle w.in-Failed.count c.requires.ready c.halves.invariant l (subst (IsAttempt c.args.self.now middle) w.in-Failed.is c.in_ok-count.ensures))
    ]

pub halves-preserved : goal.halves-preserved
halves-preserved c =
    let middle : ℕ = c.halves.low + (c.halves.high - c.halves.low) / 2 in
    let l : middle < c.halves.high = let x = c.halves.invariant.order in let y = c.halves-test.true in omega arith in
    elim c.match-branch-2.branch [
      | in-Solved w ↦ between_same c.args.self.now middle c.halves.high _ _ w.low-is w.high-is
          (between_solved c.args.self.now c.halves.low c.halves.high middle _ c.halves.invariant l (subst (IsAttempt c.args.self.now middle) w.in-Solved.is c.in_ok-count.ensures))
      | in-Failed w ↦ between_same c.args.self.now c.halves.low w.in-Failed.count _ _ w.low-is w.high-is
          (between_failed c.args.self.now c.halves.low c.halves.high middle w.in-Failed.count c.requires.ready c.halves.invariant l (subst (IsAttempt c.args.self.now middle) w.in-Failed.is c.in_ok-count.ensures))
    ]

pub returns : goal.returns
returns c = between_next c.args.self.now c.halves.low c.halves.high (let y = c.halves-test.false in omega arith) c.halves.invariant
