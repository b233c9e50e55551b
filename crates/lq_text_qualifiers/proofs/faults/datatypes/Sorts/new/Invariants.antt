use Rattle.std.proofs.Common.{◌≡◌, ℕ, map, drop}
use Rattle.lq_text_walk.specs.Scoped.Views.{data_view}
use Rattle.lq_text_qualifiers.specs.Faults.Datatypes.{constructor, constructors_in, size, size_of}
use Rattle.lq_text_qualifiers.specs.Faults.Lookups.{first_in, or_else}
use Rattle.lq_text_qualifiers.specs.Faults.Views.{held, made_view, seen}
use Rattle.lq_text_qualifiers.proofs.faults.datatypes.Sorts.new.Given as goal

abbrev pub invariant-loop-datatype : goal.invariant-loop-datatype
invariant-loop-datatype l =
    ((x : ℕ) → or_else (held l.sorts.sizes x) (first_in (map size_of (map data_view (drop l.datatype-index l.datatypes))) x) ≡ size (map data_view l.datatypes) x)
    × ((x : ℕ) → or_else (seen made_view l.sorts.constructors x) (first_in (constructors_in (map data_view (drop l.datatype-index l.datatypes))) x) ≡ constructor (map data_view l.datatypes) x)
