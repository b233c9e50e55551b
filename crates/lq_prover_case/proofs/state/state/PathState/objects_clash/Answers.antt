use Rattle.std.proofs.Common.{ℕ, subst}
use Rattle.std.specs.Option.{IfSome, IfNone}
use Rattle.lq_prover_proof_tree.specs.Trees.Proves.{Clashes}
use Rattle.lq_prover_proof_tree.specs.Trees.TreeView.{clash_of}
use Rattle.lq_logic_predicates.specs.Sum.{Sum}
use Rattle.lq_prover_case.specs.State.PathState.{PathState, NoObjectsClash, facts_in}
use Rattle.lq_prover_case.proofs.StateLemmas.Objects.{clash_by_name, none_clash}
use Rattle.lq_prover_case.proofs.state.state.PathState.objects_clash.Goals as goal

pub returns-clause-some : goal.returns-clause-some
returns-clause-some c =
    subst (λ (s : PathState). IfSome c.in_ok-clash.clash (λ p. (name : ℕ → Sum) → Clashes (facts_in name s) (clash_of p))) c.self.view_is
    (clash_by_name c.in_ok-clash.clash c.self.inside.steps.items c.self.inside.rows.rows c.self.inside.objects.facts c.objects_say_what_facts_say.ensures.clash c.self.invariant.objects_are.standing
    c.in_ok-clash.ensures.some)

pub returns-clause-none : goal.returns-clause-none
returns-clause-none c =
    subst (λ (s : PathState). IfNone c.in_ok-clash.clash (NoObjectsClash s)) c.self.view_is
    (none_clash c.in_ok-clash.clash c.self.inside.objects.facts c.self.inside.steps.items c.self.invariant.objects_are.standing c.in_ok-clash.ensures.none)
