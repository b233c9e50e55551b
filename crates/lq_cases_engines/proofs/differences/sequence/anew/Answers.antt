use Rattle.std.proofs.Common.{sym, subst, arith}
use Rattle.std.proofs.lemmas.List.Elements.{All-get_or}
use Rattle.lq_cases_engines.specs.Differences.Numbered.{IsTaken}
use Rattle.lq_cases_engines.proofs.differences.sequence.anew.Goals as goal

pub add-requires-clause-room : goal.add-requires-clause-room
add-requires-clause-room c = let e = c.loop-row.invariant.count in let t = c.loop-row-test.true in omega (arith, c.requires.room)

pub add-requires-clause-taken : goal.add-requires-clause-taken
add-requires-clause-taken c = subst IsTaken (sym c.row-item.is) (All-get_or IsTaken c.args.rows.now c.loop-row.row-index c.row-item.result c.loop-row-test.true c.requires.taken)
