-- No other user goes.
use Rattle.std.proofs.Common.{◌<◌, [], length, get_or, refl, sym, ◌∙◌, arith}
use Rattle.std.proofs.lemmas.List.{get_or_read}
use Rattle.lq_prover_congruence.proofs.ClassesLemmas.Undone.{forgotten}
use Rattle.lq_prover_congruence.proofs.ClassesLemmas.Walks.{below-at}
use Rattle.lq_prover_congruence.proofs.classes.undoing.forget.Goals as goal

pub bounds-uses-arg : goal.bounds-uses-arg
bounds-uses-arg c = omega (arith, below-at (length c.args.uses.now) c.args.args.now c.loop-arg.arg-index c.requires c.loop-arg-test.true, c.loop-arg.auto.uses)

pub offset_bounds-uses-arg : goal.offset_bounds-uses-arg
offset_bounds-uses-arg c = omega (arith, below-at (length c.args.uses.now) c.args.args.now c.loop-arg.arg-index c.requires c.loop-arg-test.true, c.loop-arg.auto.uses)

pub loop-arg-preserved : goal.loop-arg-preserved
loop-arg-preserved c =
    let within = (let z : get_or c.args.args.now c.loop-arg.arg-index 0 < length c.loop-arg.uses = omega (arith, below-at (length c.args.uses.now) c.args.args.now c.loop-arg.arg-index c.requires c.loop-arg-test.true, c.loop-arg.auto.uses) in z) in
    forgotten c.loop-arg.uses _ c.args.uses.now (get_or c.args.args.now c.loop-arg.arg-index 0) c.args.term c.pop_if.new.self (get_or c.loop-arg.uses (get_or c.args.args.now c.loop-arg.arg-index 0) c.index-uses-arg.result)
    within (sym c.index-uses-arg.is ∙ get_or_read c.loop-arg.uses (get_or c.args.args.now c.loop-arg.arg-index 0) c.index-uses-arg.result within c.index-uses-arg.is []) refl c.pop_if.ensures c.loop-arg.invariant
