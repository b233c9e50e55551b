use Rattle.std.proofs.Common.{◌++◌, map, take}
use Rattle.lq_text_walk.specs.Scoped.Signature.{constructors_in}
use Rattle.lq_text_walk.specs.Scoped.Views.{data_view}
use Rattle.lq_text_tree.specs.Signatures.{predeclared}
use Rattle.lq_generate_fresh.specs.Fresh.Defined.{Holds}
use Rattle.lq_generate_fresh.proofs.fresh.fields.Datatypes.new.Given as goal

abbrev pub invariant-loop-datatype : goal.invariant-loop-datatype
invariant-loop-datatype l = Holds l.datatypes (predeclared ++ constructors_in (map data_view (take l.datatype-index l.defined)))
