use Rattle.std.proofs.Common.{◌++◌, map, take}
use Rattle.lq_text_tree.specs.Signatures.{predeclared}
use Rattle.lq_text_walk.specs.Scoped.Signature.{constructors_in}
use Rattle.lq_text_walk.specs.Scoped.Views.{data_view}
use Rattle.lq_types_rules.specs.Constructors.Holding.{Holds}
use Rattle.lq_types_rules.proofs.constructors.table.constructors_of.Given as goal

abbrev pub invariant-loop-datatype : goal.invariant-loop-datatype
invariant-loop-datatype l = Holds l.table (predeclared ++ constructors_in (map data_view (take l.datatype-index l.datatypes)))
