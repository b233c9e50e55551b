use Rattle.std.proofs.Common.{ℕ, subst}
use Rattle.std.specs.Option.{IfSome, IfNone}
use Rattle.lq_prover_proof_tree.specs.Trees.Proves.{AreJoined}
use Rattle.lq_prover_proof_tree.specs.Trees.TreeView.{tag_items}
use Rattle.lq_prover_case.specs.Objects.Joined.{AreOne}
use Rattle.lq_logic_predicates.specs.Sum.{Sum}
use Rattle.lq_prover_case.specs.State.PathState.{PathState, facts_in, objects_in}
use Rattle.lq_prover_case.proofs.StateLemmas.Objects.{joined_by_name, none_joined}
use Rattle.lq_prover_case.proofs.state.state.PathState.joined.Goals as goal

pub returns-clause-some : goal.returns-clause-some
returns-clause-some c =
    subst (λ (s : PathState). IfSome c.in_ok-found.found (λ tags. (name : ℕ → Sum) → AreJoined (facts_in name s) (tag_items tags) (name c.args.left) (name c.args.right))) c.self.view_is
    (joined_by_name c.in_ok-found.found c.args.left c.args.right c.self.inside.steps.items c.self.inside.rows.rows c.self.inside.objects.facts c.objects_say_what_facts_say.ensures.joined
    c.self.invariant.objects_are.standing c.in_ok-found.ensures.some)

pub returns-clause-none : goal.returns-clause-none
returns-clause-none c =
    subst (λ (s : PathState). IfNone c.in_ok-found.found (AreOne (objects_in s) c.args.left c.args.right → ⊥)) c.self.view_is
    (none_joined c.in_ok-found.found c.args.left c.args.right c.self.inside.objects.facts c.self.inside.steps.items c.self.invariant.objects_are.standing c.in_ok-found.ensures.none)
