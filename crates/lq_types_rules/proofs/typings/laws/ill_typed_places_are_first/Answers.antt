use Rattle.lq_types_rules.proofs.TypingsLemmas.Places.{ill_typed_places_are_first}
use Rattle.lq_types_rules.proofs.typings.laws.ill_typed_places_are_first.Goals as goal

pub returns : goal.returns
returns c = ill_typed_places_are_first
