use Rattle.std.proofs.Common.{◌≡◌, map, take}
use Rattle.lq_text_walk.specs.Scoped.Views.{name_number}
use Rattle.lq_text_qualifiers.specs.Sorting.Filing.{filed_view}
use Rattle.lq_text_qualifiers.specs.Sorting.Making.{term_at}
use Rattle.lq_text_qualifiers.specs.Sorting.Views.{measured_view, seen, term_view}
use Rattle.lq_text_qualifiers.proofs.sorting.measures.terms_at.Given as goal

abbrev pub invariant-loop-constructor : goal.invariant-loop-constructor
invariant-loop-constructor l =
    map term_view l.terms.items ≡ map (term_at (seen measured_view l.measures) (seen filed_view l.equations)) (map name_number (take l.constructor-index l.constructors))
