use Rattle.std.proofs.Common.{◌≡◌, ℕ, map, drop}
use Rattle.lq_text_walk.specs.Scoped.Views.{constructor_view}
use Rattle.lq_text_qualifiers.specs.Faults.Datatypes.{entry_of}
use Rattle.lq_text_qualifiers.specs.Faults.Lookups.{first_in, or_else}
use Rattle.lq_text_qualifiers.specs.Faults.Views.{made_view, seen}
use Rattle.lq_text_qualifiers.proofs.faults.datatypes.add_constructors.Given as goal

abbrev pub invariant-loop-constructor : goal.invariant-loop-constructor
invariant-loop-constructor l =
    (x : ℕ) → or_else (seen made_view l.known x) (first_in (map (entry_of l.datatype.0) (map constructor_view (drop l.constructor-index l.constructors))) x)
    ≡ or_else (seen made_view l.fn.known x) (first_in (map (entry_of l.datatype.0) (map constructor_view l.constructors)) x)
