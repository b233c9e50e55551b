use Rattle.std.proofs.Common.{◌≡◌, ◌<◌, ◌+◌, ◌++◌, ◌∙◌, sym, ap, subst}
use Rattle.lq_prover_proof_tree.specs.Literals.LeafView.{leaf_views, waiting_leaves, waiting_size, size_of}
use Rattle.lq_prover_proof_tree.proofs.LiteralsLemmas.Waiting.{waiting-push, size-push}
use Rattle.lq_logic_predicates.specs.PredView.{formula_of}
use Rattle.lq_prover_proof_tree.proofs.literals.leaf.add_leaves.Goals as goal

pub loop-next-smaller : goal.loop-next-smaller
loop-next-smaller c =
    let h : waiting_size c.loop-next.waiting.items ≡ waiting_size c.pop.new.self.items + size_of (formula_of c.in-Some.next.pred.now) =
    ap waiting_size c.in-Some.ensures.items ∙ size-push c.pop.new.self.items c.in-Some.next in
    subst (λ n. waiting_size c.take_apart.new.waiting.items < n) (sym h) c.in_ok-take_apart.ensures.smaller

pub loop-next-preserved : goal.loop-next-preserved
loop-next-preserved c =
    c.in_ok-take_apart.ensures.leaves
    ∙ ap (λ x. leaf_views c.loop-next.leaves.items ++ x) (sym (ap waiting_leaves c.in-Some.ensures.items ∙ waiting-push c.pop.new.self.items c.in-Some.next))
    ∙ c.loop-next.invariant
