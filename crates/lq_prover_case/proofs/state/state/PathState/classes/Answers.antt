use Rattle.std.proofs.Common.{◌≡◌, ◌↔◌, ◌<◌, ℕ, get_or, subst}
use Rattle.lq_prover_case.specs.Objects.Joined.{AreOne}
use Rattle.lq_logic_predicates.specs.Sum.{Sum}
use Rattle.lq_prover_case.specs.State.PathState.{PathState, AllObjectsHold, NoObjectsClash, facts_in, objects_in}
use Rattle.lq_prover_case.proofs.StateLemmas.Objects.{holds_by_name, one_by_facts}
use Rattle.lq_prover_case.proofs.state.state.PathState.classes.Goals as goal

pub returns-clause-one : goal.returns-clause-one
returns-clause-one c =
    subst (λ (s : PathState). (a b : ℕ) → a < s.objects.count → b < s.objects.count
    → (get_or c.classes.result.now a 0 ≡ get_or c.classes.result.now b 0) ↔ AreOne (objects_in s) a b) c.self.view_is
    (one_by_facts c.self.inside.objects.count c.classes.result.now c.self.inside.objects.facts c.self.inside.steps.items c.self.invariant.objects_are.standing c.classes.ensures.one)

pub returns-clause-holds : goal.returns-clause-holds
returns-clause-holds c =
    subst (λ (s : PathState). NoObjectsClash s → (name : ℕ → Sum) → AllObjectsHold name (λ a. get_or c.classes.result.now a 0) (facts_in name s)) c.self.view_is
    (holds_by_name c.classes.result.now c.self.inside.objects.facts c.self.inside.steps.items c.self.inside.rows.rows c.self.invariant.objects_are.standing c.classes.ensures.holds)
