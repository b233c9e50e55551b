use Rattle.std.proofs.Common.{◌≡◌, ◌+◌, ◌∙◌, sym, ap, ◌++◌, subst, take, map}
use Rattle.lq_prover_proof_tree.specs.Literals.Leaves.{leaves_of, each_leaves}
use Rattle.lq_prover_proof_tree.proofs.LiteralsLemmas.Adding.{each_leaves-more}
use Rattle.lq_logic_predicates.specs.Literals.{positive}
use Rattle.lq_logic_predicates.specs.PredView.{formula_of}
use Rattle.lq_prover_proof_tree.proofs.literals.leaf.leaves_of.Goals as goal

pub loop-pred-preserved : goal.loop-pred-preserved
loop-pred-preserved c =
    let i = c.loop-pred.pred-index in let p = formula_of c.pred-item.result in
    c.in_ok-add_leaves.ensures ∙ ap (λ l. l ++ leaves_of positive p) c.loop-pred.invariant
    ∙ sym (subst (λ l. each_leaves (map formula_of (take (i + 1) l)) ≡ each_leaves (map formula_of (take i l)) ++ leaves_of positive p) c.as_slice-pred-items.ensures
    (each_leaves-more c.as_slice-pred-items.result.now i c.pred-item.result c.loop-pred-test.true c.pred-item.is))
