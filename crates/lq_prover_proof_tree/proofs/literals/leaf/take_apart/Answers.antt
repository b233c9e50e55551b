use Rattle.std.proofs.Common.{◌∙◌, sym, ap, ap₂, suc}
use Rattle.lq_prover_proof_tree.specs.Literals.Leaves.{leaves_of}
use Rattle.lq_prover_proof_tree.specs.Literals.LeafView.{signs_of, leaf_views, size_of}
use Rattle.lq_prover_proof_tree.proofs.LiteralsLemmas.Waiting.{apart_one, smaller_one}
use Rattle.lq_logic_predicates.specs.PredView.{formula_of}
use Rattle.lq_prover_proof_tree.proofs.literals.leaf.take_apart.Goals as goal

pub returns-in_ok-push-in-Not-clause-leaves : goal.returns-in_ok-push-in-Not-clause-leaves
returns-in_ok-push-in-Not-clause-leaves c =
    apart_one (leaf_views c.args.leaves.now.items) c.args.waiting.now.items _ _ _ c.in_ok-push-in-Not.ensures.items
    (ap₂ leaves_of c.turned.ensures (ap formula_of c.deref.ensures) ∙ sym (ap (λ p. leaves_of (signs_of c.args.polarity) (formula_of p)) c.in-Not.is))

pub returns-in_ok-push-in-Not-clause-smaller : goal.returns-in_ok-push-in-Not-clause-smaller
returns-in_ok-push-in-Not-clause-smaller c =
    smaller_one c.args.waiting.now.items _ _ _ c.in_ok-push-in-Not.ensures.items
    (ap (λ p. size_of (formula_of p)) c.in-Not.is ∙ ap (λ p. suc (size_of (formula_of p))) (sym c.deref.ensures))
