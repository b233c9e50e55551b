use Rattle.std.proofs.Common.{ℕ, List, ◌++◌, map, take}
use Rattle.lq_refined_types.specs.Parts.Part.{Scopes as ScopeLists}
use Rattle.lq_refined_subtyping.specs.Table.Whole.{types_of, Grows}
use Rattle.lq_text_walk.specs.Scoped.Signature.{signed}
use Rattle.lq_text_walk.specs.Scoped.Views.{constructor_view, data_view}
use Rattle.lq_text_qualifiers.specs.Sorting.Views.{measure_view}
use Rattle.lq_text_tree.specs.Types.{Constructor}
use Rattle.lq_generate_datatypes.specs.Views.{Holds}
use Rattle.lq_generate_datatypes.proofs.building.Building.add_datatype.Given as goal

abbrev pub invariant-loop-constructor : goal.invariant-loop-constructor
invariant-loop-constructor l = record {
  holds : (scopes : ScopeLists) (ks : List (ℕ × Constructor)) → Holds (map measure_view l.measures) (types_of scopes l.fn.types) l.fn.self ks
      → Holds (map measure_view l.measures) (types_of scopes l.types) l.self
      (ks ++ map (signed (data_view l.datatype)) (map constructor_view (take l.constructor-index l.datatype.constructors.items)));
  grows : Grows l.fn.types l.types;
}
