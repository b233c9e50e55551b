use Rattle.std.proofs.Common.{◌≡◌, map, take}
use Rattle.lq_types_infer.specs.Annotation.Numbering.{value_or_zero}
use Rattle.lq_types_infer.proofs.annotation.numbering.values_of.Given as goal

abbrev pub invariant-loop-name : goal.invariant-loop-name
invariant-loop-name l = l.values.items ≡ map value_or_zero (take l.name-index l.names)
