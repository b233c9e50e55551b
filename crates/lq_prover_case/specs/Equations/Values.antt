-- Classes of objects, read off a state.
use Rattle.std.specs.Prelude.{◌≡◌, ℕ, List, Some, slice_get, slice_index}
use Rattle.lq_logic_points.specs.Values.{class_value}
use Rattle.lq_logic_predicates.specs.Sum.{Sum}
use Rattle.lq_logic_predicates.specs.declared.term.Term.{Term}

-- each object has the class that stands at its number
abbrev pub HasClasses : List Sum → List ℕ → List (Term × ℕ) → Type 0
HasClasses objects classes made = (k : ℕ) (a : Sum) → slice_get objects k ≡ Some a → class_value made a ≡ Some (slice_index classes k)
