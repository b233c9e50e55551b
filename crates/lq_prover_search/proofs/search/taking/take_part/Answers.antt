use Rattle.std.proofs.Common.{◌∷◌, [], ◌++◌, sym, subst}
use Rattle.lq_prover_case.specs.State.PathState.{facts_in, objects_in}
use Rattle.lq_prover_proof_tree.specs.Trees.Proves.{Clashes}
use Rattle.lq_prover_proof_tree.specs.Trees.TreeView.{clash_of, tree_view}
use Rattle.lq_prover_proof_tree.specs.declared.trees.tree.ProofTree as ProofTree
use Rattle.lq_prover_case.specs.Equations.Literals.{literal_fact}
use Rattle.lq_prover_case.specs.Equations.Naming.{name_in, objects_of}
use Rattle.lq_prover_search.specs.Path.SearchPath.{IsLeafOf, by_facts}
use Rattle.lq_prover_search.specs.Search.Parts.{part_fact, path_with}
use Rattle.lq_prover_search.proofs.SearchLemmas.Nodes.{leaf_seen}
use Rattle.lq_prover_search.proofs.SearchLemmas.Taken.{told_next}
use Rattle.lq_prover_search.proofs.search.taking.take_part.Goals as goal

pub returns-in-Some-clause-leaf : goal.returns-in-Some-clause-leaf
returns-in-Some-clause-leaf c = λ choices.
    let name = name_in (objects_of c.args.objects.now) in
    let clash = rw c.in-Some.is at c.in_ok-clash.ensures.clash in
    let tree = tree_view (ProofTree.Leaf c.in-Some.clash) in
    let old = facts_in name c.args.state.now in
    let path = path_with (old ++ literal_fact c.in-Known.literal ∷ []) choices in
    let leaf : IsLeafOf path tree = subst (IsLeafOf path) (sym (leaf_seen c.in-Some.clash))
    (by_facts (clash_of c.in-Some.clash) (subst (λ fs. Clashes fs (clash_of c.in-Some.clash)) c.in_ok-clash.ensures.stands clash)) in
    subst (λ f. IsLeafOf (path_with (old ++ part_fact f ∷ []) choices) tree) (sym c.in-Known.is) leaf

pub returns-in-None-clause-told : goal.returns-in-None-clause-told
returns-in-None-clause-told c = λ h.
    let objects = objects_of c.args.objects.now in
    told_next objects (objects_in c.args.state.now) (objects_in c.take_literal.new.state) (facts_in (name_in objects) c.args.state.now) (facts_in (name_in objects) c.take_literal.new.state) _
    c.in_ok-clash.ensures.more c.in_ok-clash.ensures.told c.in_ok-clash.ensures.stands h
