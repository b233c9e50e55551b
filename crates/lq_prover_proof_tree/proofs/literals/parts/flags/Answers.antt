use Rattle.std.proofs.Common.{◌∙◌, sym, ap}
use Rattle.lq_prover_proof_tree.specs.Literals.Parts.{flags_with}
use Rattle.lq_prover_proof_tree.proofs.LiteralsLemmas.Adding.{flags-more}
use Rattle.lq_logic_predicates.specs.PredView.{formula_of}
use Rattle.lq_prover_proof_tree.proofs.literals.parts.flags.Goals as goal

pub loop-leaf-preserved : goal.loop-leaf-preserved
loop-leaf-preserved c =
    c.in_ok-add_flag.ensures ∙ ap (λ l. flags_with l (formula_of c.leaf-item.result.pred.now)) c.loop-leaf.invariant
    ∙ sym (flags-more c.deref-leaf-items.result.now c.loop-leaf.leaf-index c.leaf-item.result c.loop-leaf-test.true c.leaf-item.is)
