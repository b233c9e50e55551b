use Rattle.std.proofs.Common.{◌≡◌, map, take}
use Rattle.lq_types_table.specs.Whole.{types_of}
use Rattle.lq_types_rules.specs.Typings.Principal.{is_open}
use Rattle.lq_types_infer.proofs.instantiation.opens.opens_of.Given as goal

abbrev pub invariant-loop-row : goal.invariant-loop-row
invariant-loop-row l = l.with_variables.items ≡ map is_open (take l.row (types_of l.table))
