use Rattle.std.proofs.Common.{sym, subst, map}
use Rattle.lq_prover_proof_tree.specs.Literals.Gathered.{IsFirstPast}
use Rattle.lq_prover_proof_tree.specs.Literals.LeafView.{leaf_view, leaf_views}
use Rattle.lq_prover_proof_tree.specs.Literals.Sources.{leaf_source}
use Rattle.lq_prover_proof_tree.proofs.LiteralsLemmas.Leading.{leads_next, leads_here}
use Rattle.lq_prover_proof_tree.proofs.literals.ungathered.first_past_leaf.Goals as goal

pub returns-then-past-clause-some : goal.returns-then-past-clause-some
returns-then-past-clause-some c =
    let leaves = c.args.leaves.now in let x = c.leaf-item.result in
    subst (IsFirstPast (map leaf_source (leaf_views leaves))) (sym c.in_ok-copy.ensures)
    (leads_here leaf_source leaf_view leaves c.loop-leaf.leaf-index x c.loop-leaf-test.true c.leaf-item.is c.loop-leaf.invariant
    (c.in_ok-past.ensures.past c.if-past.true))

pub loop-leaf-preserved : goal.loop-leaf-preserved
loop-leaf-preserved c =
    leads_next leaf_source leaf_view c.args.leaves.now c.loop-leaf.leaf-index c.leaf-item.result c.loop-leaf-test.true c.leaf-item.is c.loop-leaf.invariant
    (c.in_ok-past.ensures.fits c.if-past.false)
