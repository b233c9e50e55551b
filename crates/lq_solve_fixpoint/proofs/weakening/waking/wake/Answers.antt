use Rattle.std.proofs.Common.{◌≡◌, Bool, true, false, sym, subst}
use Rattle.lq_solve_fixpoint.specs.Weakening.Waking.{IsFlowAt}
use Rattle.lq_solve_fixpoint.proofs.WeakeningLemmas.Inserting.{wakes_none, wakes_one}
use Rattle.lq_solve_fixpoint.proofs.weakening.waking.wake.Goals as goal

pub returns-in_ok-insert : goal.returns-in_ok-insert
returns-in_ok-insert c =
    wakes_one c.args.goals.now c.args.at c.args.waiting.now.keys c.insert.new.self.keys (c.is_flow.ensures.is c.if-is_flow.true) c.in_ok-insert.ensures.keys c.in_ok-insert.ensures.ordered

pub returns-else-is_flow : goal.returns-else-is_flow
returns-else-is_flow c =
    wakes_none c.args.goals.now (λ k. k ≡ c.args.at) c.args.waiting.now.keys (λ k e f. different (sym c.if-is_flow.false) (c.is_flow.ensures.not (subst (IsFlowAt c.args.goals.now) e f)))
  where
    different : {b : Bool} → false ≡ b → b ≡ true → ⊥
    different e f = cc
