use Rattle.std.proofs.Common.{take}
use Rattle.lq_generate_implications.specs.Walk.Through.{Steps}
use Rattle.lq_generate_implications.proofs.WalkLemmas.Stepping.{items_on}
use Rattle.lq_generate_implications.proofs.walk.program.ask_all.Given as goal

abbrev pub invariant-loop-item : goal.invariant-loop-item
invariant-loop-item l = Steps l.basis l.initial.walk l.walk 0 l.env (items_on (take l.item-index l.program))
