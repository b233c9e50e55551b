use Rattle.lq_types_unify.specs.Copying.{AreOpened}
use Rattle.lq_types_unify.proofs.copying.open_all.Given as goal

abbrev pub invariant-loop : goal.invariant-loop
invariant-loop l = AreOpened l.fn.arena l.arena l.counter
