use Rattle.std.proofs.Common.{◌≡◌, ◌++◌, map, take, drop}
use Rattle.lq_types_table.specs.Nodes.{renamed}
use Rattle.lq_types_table.proofs.type_table.rename_rows.Given as goal

abbrev pub invariant-loop-at : goal.invariant-loop-at
invariant-loop-at l = l.rows ≡ map (renamed l.names) (take l.at l.initial.rows) ++ drop l.at l.initial.rows
