-- The places of the code's unknowns, and its patterns; and their symbols.
use Rattle.std.specs.Prelude.{Bool, List, ◌++◌, map}
use Rattle.std.specs.declared.alloc.Global.{Global}
use Rattle.std.specs.declared.vec.Vec.{Vec}
use Rattle.lq_logic_predicates.specs.declared.symbol.Symbol.{Symbol}
use Rattle.lq_refined_substitution.specs.Substitution.Places.{mixed}
use Rattle.lq_refined_substitution.specs.Substitution.Scopes.{list_at}
use Rattle.lq_refined_substitution.specs.declared.substitution.places.Inner.{Inner}
use Rattle.lq_refined_substitution.specs.declared.substitution.places.Place.{Place}
use Rattle.lq_refined_substitution.specs.declared.substitution.places.Place.TheVariants.{Alone, Behind}
use Rattle.lq_refined_substitution.specs.declared.substitution.places.Places.{Places}

-- the unknowns of each pattern, by its number
abbrev pub patterns_of : Places → List (List Inner)
patterns_of all = map (λ (v : Vec Inner Global). v.items) all.patterns.items

-- the place of each unknown, by its number
abbrev pub places_of : Places → List Place
places_of all = mixed (patterns_of all) all.alone.items 0 all.copies.items

-- the symbols at a place, by those of each scope
abbrev pub place_list : List (List Symbol) → Place → List Symbol
place_list lists (Alone s) = list_at lists s
place_list lists (Behind s t) = list_at lists s ++ list_at lists t

-- an unknown of a pattern: whether the scope at which that is used stands before its own, and the symbols of its own
abbrev pub inner_view : List (List Symbol) → Inner → Bool × List Symbol
inner_view lists inner = (inner.is_behind, list_at lists inner.scope)
