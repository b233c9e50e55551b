-- Each term of the ring gets the label, and no other.
use Rattle.std.proofs.Common.{ℕ, ◌<◌, List, length, subst, arith}
use Rattle.lq_prover_congruence.specs.Ring.Ring.{times}
use Rattle.lq_prover_congruence.proofs.ClassesLemmas.Walks.{next-of, set-ring, set-others}
use Rattle.lq_prover_congruence.proofs.classes.joining.relabel.Goals as goal

within : (c : goal.In-Some) → c.in-Some.member < length c.loop-member.labels
within c =
    let m = next-of c.into_iter-member-iterator.result c.loop-member.yielded c.loop-member.member-iterator c.next.new.self c.in-Some.member c.loop-member.yielded_by c.in-Some.ensures.steps in
    let P : List ℕ → Type 0 = λ l. 0 < times c.in-Some.member l in
    omega (arith, c.walk-member-items.ensures.within c.in-Some.member (subst P c.into_iter-member-iterator.ensures.into_iter_gives m), c.requires.room, c.loop-member.auto.labels)

pub offset_bounds-labels-member : goal.offset_bounds-labels-member
offset_bounds-labels-member c = omega (arith, within c)

pub bounds-labels-member : goal.bounds-labels-member
bounds-labels-member c = within c

pub loop-member-preserved : goal.loop-member-preserved
loop-member-preserved c =
    (tt, tt, set-ring c.loop-member.labels c.loop-member.yielded c.in-Some.member c.args.label (within c) c.loop-member.invariant.2, set-others c.loop-member.labels c.args.labels.now c.loop-member.yielded c.in-Some.member c.args.label c.loop-member.invariant.3)
