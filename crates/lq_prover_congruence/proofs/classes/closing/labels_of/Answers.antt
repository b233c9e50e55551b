-- One label after another.
use Rattle.std.proofs.Common.{[], ◌∷◌, ◌++◌, length, get_or, sym, ap, ◌∙◌, arith}
use Rattle.lq_prover_congruence.proofs.ClassesLemmas.Walks.{below-at, map-more}
use Rattle.lq_prover_congruence.proofs.classes.closing.labels_of.Goals as goal

pub bounds-labels-term : goal.bounds-labels-term
bounds-labels-term c = below-at (length c.args.labels.now) c.args.terms.now c.loop-term.term-index c.requires c.loop-term-test.true

pub loop-term-preserved : goal.loop-term-preserved
loop-term-preserved c =
    c.in_ok-push.ensures.items ∙ ap (λ l. l ++ get_or c.args.labels.now (get_or c.args.terms.now c.loop-term.term-index 0) 0 ∷ []) c.loop-term.invariant
    ∙ sym (map-more (λ a. get_or c.args.labels.now a 0) c.args.terms.now c.loop-term.term-index c.loop-term-test.true)

pub offset_bounds-labels-term : goal.offset_bounds-labels-term
offset_bounds-labels-term c = omega (arith, below-at (length c.args.labels.now) c.args.terms.now c.loop-term.term-index c.requires c.loop-term-test.true)
