use Rattle.std.proofs.Common.{◌≡◌, map, take}
use Rattle.lq_types_table.specs.Whole.{types_of}
use Rattle.lq_types_rules.specs.Typings.Principal.{counted, is_open}
use Rattle.lq_types_infer.proofs.annotation.measures.measure.Given as goal

abbrev pub invariant-loop-row : goal.invariant-loop-row
invariant-loop-row l = record {
  sizes : l.sizes.items ≡ map counted (take l.row (types_of l.table));
  opens : l.open.items ≡ map is_open (take l.row (types_of l.table));
}
