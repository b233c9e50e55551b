use Rattle.std.proofs.Common.{◌≡◌, map, take}
use Rattle.lq_types_table.specs.Whole.{types_of}
use Rattle.lq_types_infer.specs.Annotation.Bounds.{bound_of}
use Rattle.lq_types_infer.proofs.annotation.bounds.bounds_of.Given as goal

abbrev pub invariant-loop-row : goal.invariant-loop-row
invariant-loop-row l = l.bounds.items ≡ map bound_of (take l.row (types_of l.table))
