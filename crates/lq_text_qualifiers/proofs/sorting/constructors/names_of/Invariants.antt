use Rattle.std.proofs.Common.{◌≡◌, map, take}
use Rattle.lq_text_walk.specs.Scoped.Views.{constructor_view, name_number}
use Rattle.lq_text_qualifiers.specs.Sorting.Making.{constructor_name}
use Rattle.lq_text_qualifiers.proofs.sorting.constructors.names_of.Given as goal

abbrev pub invariant-loop-constructor : goal.invariant-loop-constructor
invariant-loop-constructor l = map name_number l.names.items ≡ map constructor_name (map constructor_view (take l.constructor-index l.constructors))
