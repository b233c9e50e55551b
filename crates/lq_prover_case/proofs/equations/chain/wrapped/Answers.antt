use Rattle.std.proofs.Common.{◌≡◌, ◌∙◌, sym, ap}
use Rattle.lq_prover_proof_tree.specs.Trees.Tree.{Tree, Trees, equal}
use Rattle.lq_prover_proof_tree.specs.Trees.TreeView.{tag_items, tree_step, tree_view, trees_step}
use Rattle.lq_prover_proof_tree.specs.declared.trees.tree.ProofTree as ProofTree
use Rattle.lq_prover_case.specs.Equations.Equating.{around}
use Rattle.lq_prover_case.proofs.EquationsLemmas.Chains.{around_push}
use Rattle.lq_prover_case.proofs.equations.chain.wrapped.Goals as goal

pub loop-joint-preserved : goal.loop-joint-preserved
unfolding ProofTree.out-ProofTree denote.Hole.Carrier.out
loop-joint-preserved c =
    let j = c.in-Some.joint in
    let e : tree_view (ProofTree.Equal j.left j.right j.tags c.in_ok-new.field-0) ≡ equal j.left j.right (tag_items j.tags) (tree_view c.in_ok-new.field-0.value) = ProofTree.fold_out-ProofTree Tree Trees tree_step trees_step (ProofTree.Equal j.left j.right j.tags c.in_ok-new.field-0) in
    ap (around c.pop.new.self.items) e
    ∙ ap (λ t. around c.pop.new.self.items (equal j.left j.right (tag_items j.tags) (tree_view t))) c.in_ok-new.ensures.ok
    ∙ sym (around_push c.pop.new.self.items j (tree_view c.loop-joint.whole))
    ∙ ap (λ l. around l (tree_view c.loop-joint.whole)) (sym c.in-Some.ensures.items) ∙ c.loop-joint.invariant
