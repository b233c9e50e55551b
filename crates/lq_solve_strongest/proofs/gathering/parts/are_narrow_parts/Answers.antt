use Rattle.std.proofs.lemmas.List.Elements.{All-nil}
use Rattle.lq_solve_strongest.specs.SmallForms.Narrow.{IsNarrow}
use Rattle.lq_solve_fixpoint.specs.Questions.Assigned.{instances_in}
use Rattle.lq_solve_strongest.proofs.GatheringLemmas.Narrowing.{parts_all, parts_next}
use Rattle.lq_solve_strongest.proofs.gathering.parts.are_narrow_parts.Goals as goal

pub loop-part-init : goal.loop-part-init
loop-part-init c = All-nil IsNarrow

pub loop-part-preserved : goal.loop-part-preserved
loop-part-preserved c =
    parts_next (instances_in c.args.instances.now) c.args.parts.now c.loop-part.part-index c.part-item.result c.loop-part-test.true c.part-item.is c.loop-part.invariant (c.in_ok-narrow.ensures c.if-not-narrow.false)

pub returns : goal.returns
returns c = λ _. parts_all (instances_in c.args.instances.now) c.args.parts.now c.loop-part.part-index c.loop-part-test.false c.loop-part.invariant
