use Rattle.lq_prover_proof_tree.proofs.LiteralsLemmas.Waiting.{push_two_leaves, push_two_size}
use Rattle.lq_prover_proof_tree.proofs.literals.leaf.push_two.Goals as goal

pub returns-clause-leaves : goal.returns-clause-leaves
returns-clause-leaves c = push_two_leaves c.args.waiting.now.items _ _ _ _ c.in_ok-push.ensures.items c.in_ok-push-2.ensures.items

pub returns-clause-size : goal.returns-clause-size
returns-clause-size c = push_two_size c.args.waiting.now.items _ _ _ _ c.in_ok-push.ensures.items c.in_ok-push-2.ensures.items
