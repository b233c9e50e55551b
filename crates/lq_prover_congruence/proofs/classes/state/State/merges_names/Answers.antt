-- One entry more.
use Rattle.std.proofs.Common.{length, get_or, sym, ap, ◌∙◌, arith}
use Rattle.lq_prover_congruence.proofs.ClassesLemmas.Named.{merged-in, names-over, names-more}
use Rattle.lq_prover_congruence.proofs.classes.state.State.merges_names.Goals as goal

pub loop-entry-preserved-in_default : goal.loop-entry-preserved-in_default
loop-entry-preserved-in_default c =
    names-over c.args.self.now.known c.args.self.now.trail.items c.loop-entry.entry-index c.entry-item.result (omega (arith, c.loop-entry-test.true, ap length c.deref-entry-items.ensures.value)) (c.entry-item.is ∙ ap (λ es. get_or es c.loop-entry.entry-index c.entry-item.result) c.deref-entry-items.ensures.value) c.in_default.ensures.none c.loop-entry.invariant

pub is_name-requires : goal.is_name-requires
is_name-requires c = (c.requires c.in-Some.pair.left c.in-Some.pair.right c.in-Some.ensures.some.0 (merged-in c.args.self.now.trail.items c.loop-entry.entry-index c.entry-item.result c.in-Some.pair.left c.in-Some.pair.right c.in-Some.ensures.some.0 (omega (arith, c.loop-entry-test.true, ap length c.deref-entry-items.ensures.value)) (c.entry-item.is ∙ ap (λ es. get_or es c.loop-entry.entry-index c.entry-item.result) c.deref-entry-items.ensures.value) c.in-Some.ensures.some.1)).0

pub is_name-requires-in-loop-entry : goal.is_name-requires-in-loop-entry
is_name-requires-in-loop-entry c = (c.requires c.in-Some.pair.left c.in-Some.pair.right c.in-Some.ensures.some.0 (merged-in c.args.self.now.trail.items c.loop-entry.entry-index c.entry-item.result c.in-Some.pair.left c.in-Some.pair.right c.in-Some.ensures.some.0 (omega (arith, c.loop-entry-test.true, ap length c.deref-entry-items.ensures.value)) (c.entry-item.is ∙ ap (λ es. get_or es c.loop-entry.entry-index c.entry-item.result) c.deref-entry-items.ensures.value) c.in-Some.ensures.some.1)).1

pub returns-then-not-is_name-clause-no : goal.returns-then-not-is_name-clause-no
returns-then-not-is_name-clause-no c = λ n.
    let p = n c.in-Some.pair.left c.in-Some.pair.right c.in-Some.ensures.some.0 (merged-in c.args.self.now.trail.items c.loop-entry.entry-index c.entry-item.result c.in-Some.pair.left c.in-Some.pair.right c.in-Some.ensures.some.0 (omega (arith, c.loop-entry-test.true, ap length c.deref-entry-items.ensures.value)) (c.entry-item.is ∙ ap (λ es. get_or es c.loop-entry.entry-index c.entry-item.result) c.deref-entry-items.ensures.value) c.in-Some.ensures.some.1) in
    sym c.if-not-is_name.true ∙ c.is_name.ensures.1 p.0

pub returns-then-not-is_name-2-clause-no : goal.returns-then-not-is_name-2-clause-no
returns-then-not-is_name-2-clause-no c = λ n.
    let p = n c.in-Some.pair.left c.in-Some.pair.right c.in-Some.ensures.some.0 (merged-in c.args.self.now.trail.items c.loop-entry.entry-index c.entry-item.result c.in-Some.pair.left c.in-Some.pair.right c.in-Some.ensures.some.0 (omega (arith, c.loop-entry-test.true, ap length c.deref-entry-items.ensures.value)) (c.entry-item.is ∙ ap (λ es. get_or es c.loop-entry.entry-index c.entry-item.result) c.deref-entry-items.ensures.value) c.in-Some.ensures.some.1) in
    sym c.if-not-is_name-2.true ∙ c.is_name-in-loop-entry.ensures.1 p.1

pub loop-entry-preserved : goal.loop-entry-preserved
loop-entry-preserved c =
    names-more c.args.self.now.known c.args.self.now.trail.items c.loop-entry.entry-index c.entry-item.result c.in-Some.pair.left c.in-Some.pair.right (omega (arith, c.loop-entry-test.true, ap length c.deref-entry-items.ensures.value)) (c.entry-item.is ∙ ap (λ es. get_or es c.loop-entry.entry-index c.entry-item.result) c.deref-entry-items.ensures.value) c.in-Some.ensures.some
    (c.is_name.ensures.0 c.if-not-is_name.false) (c.is_name-in-loop-entry.ensures.0 c.if-not-is_name-2.false) c.loop-entry.invariant
