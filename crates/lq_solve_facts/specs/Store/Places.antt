-- What stands at the places of a program.
use Rattle.std.specs.Prelude.{◌≡◌, ◌+◌, ℕ, List, Option, Some, length, reverse, slice_get}
use Rattle.std.specs.Option.{option_and_then, option_map}
use Rattle.lq_refined_substitution.specs.Implications.Views.{environment_in}
use Rattle.lq_refined_types.specs.Parts.Assignment.{Assignment, part_under}
use Rattle.lq_refined_types.specs.Parts.Constraint.{Constraint}
use Rattle.lq_refined_types.specs.Parts.Part.{Part, Parts}
use Rattle.lq_solve_facts.specs.Store.Store.{Standing}
use Rattle.lq_solve_facts.specs.declared.store.store.PartPlace.{PartPlace}
use Rattle.lq_solve_facts.specs.declared.store.store.PartPlace.TheVariants.{Environment, Goal, Left}

-- the part with so many behind it
abbrev pub part_before : Parts → ℕ → Option Part
part_before parts behind = slice_get (reverse parts) behind

-- the part at a place, where the environments have these hypotheses and the implications are these constraints
abbrev pub part_at : List Parts → List Constraint → PartPlace → Option Part
part_at es cs (Environment env) = part_before (environment_in es env) 0
part_at es cs (Goal at) = option_map (λ c. c.goal) (slice_get cs at)
part_at es cs (Left at behind) = option_and_then (λ c. part_before c.hypotheses behind) (slice_get cs at)

-- the formula at a place, where unknowns have these instances: the predicate of a known part, and of an unknown the instance of the number
abbrev pub formula_at : Assignment → List Parts → List Constraint → Standing
formula_at I es cs place n = option_and_then (λ q. slice_get (part_under I q) n) (part_at es cs place)

-- the part stands at the place
abbrev pub StandsAt : Standing → Assignment → PartPlace → Part → Type 0
StandsAt F I place q = (n : ℕ) → F place n ≡ slice_get (part_under I q) n

-- the parts stand at the places of the implication's left type
abbrev pub StandAtLeft : Standing → Assignment → ℕ → Parts → Type 0
StandAtLeft F I at qs = (i behind : ℕ) (q : Part) → slice_get qs i ≡ Some q → i + behind + 1 ≡ length qs → StandsAt F I (Left at behind) q
