use Rattle.std.proofs.Common.{◌++◌, map, take}
use Rattle.lq_refined_types.specs.Parts.Part.{Scopes as ScopeLists}
use Rattle.lq_refined_subtyping.specs.Table.Whole.{types_of, Grows}
use Rattle.lq_text_walk.specs.Scoped.Signature.{constructors_in}
use Rattle.lq_text_walk.specs.Scoped.Views.{data_view}
use Rattle.lq_text_qualifiers.specs.Sorting.Views.{measure_view}
use Rattle.lq_text_tree.specs.Signatures.{predeclared}
use Rattle.lq_generate_datatypes.specs.Views.{Holds}
use Rattle.lq_generate_datatypes.proofs.building.declare.Given as goal

abbrev pub invariant-loop-datatype : goal.invariant-loop-datatype
invariant-loop-datatype l = record {
  holds : (scopes : ScopeLists) → Holds (map measure_view l.measures) (types_of scopes l.types) l.building
      (predeclared ++ constructors_in (map data_view (take l.datatype-index l.defined)));
  grows : Grows l.fn.types l.types;
}
