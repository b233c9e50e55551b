use Rattle.std.proofs.lemmas.List.{take_more}
use Rattle.lq_text_scope.proofs.Naming.{repeats}
use Rattle.lq_text_scope.proofs.binders.note_repeated.Goals as goal

pub loop-binding-preserved : goal.loop-binding-preserved
loop-binding-preserved c =
    repeats c.args.known.now c.loop-binding.known _ c.args.bindings.now c.loop-binding.binding-index _ _ _ _
    (take_more c.args.bindings.now c.loop-binding.binding-index _ c.loop-binding-test.true) c.loop-binding.invariant.0 c.in_ok-show.ensures.shown c.loop-binding.invariant.1 c.note_again.ensures
