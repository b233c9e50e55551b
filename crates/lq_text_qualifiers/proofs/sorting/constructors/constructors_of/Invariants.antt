use Rattle.std.proofs.Common.{◌≡◌, ◌++◌, ℕ, map, drop}
use Rattle.lq_text_walk.specs.Scoped.Views.{data_view}
use Rattle.lq_text_qualifiers.specs.Faults.Datatypes.{predeclared}
use Rattle.lq_text_qualifiers.specs.Faults.Lookups.{first_in, or_else}
use Rattle.lq_text_qualifiers.specs.Sorting.Filing.{listed_view}
use Rattle.lq_text_qualifiers.specs.Sorting.Making.{constructors_of}
use Rattle.lq_text_qualifiers.specs.Sorting.Views.{seen}
use Rattle.lq_text_qualifiers.proofs.sorting.constructors.constructors_of.Given as goal

abbrev pub invariant-loop-datatype : goal.invariant-loop-datatype
invariant-loop-datatype l =
    (x : ℕ) → or_else (seen listed_view l.known x) (first_in (map constructors_of (map data_view (drop l.datatype-index l.datatypes))) x)
    ≡ first_in (map constructors_of (predeclared ++ map data_view l.datatypes)) x
