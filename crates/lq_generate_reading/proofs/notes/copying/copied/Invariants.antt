use Rattle.std.proofs.Common.{◌≡◌, take}
use Rattle.lq_types_table.specs.Whole.{types_of}
use Rattle.lq_generate_reading.proofs.notes.copying.copied.Given as goal

abbrev pub invariant-loop-row : goal.invariant-loop-row
invariant-loop-row l = types_of l.copy ≡ take l.row (types_of l.table)
