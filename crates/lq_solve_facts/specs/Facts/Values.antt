-- Flags at the facts of a path, and readings that are all met.
use Rattle.std.specs.Prelude.{◌≡◌, Bool, false, List, [], ◌∷◌, Option, Some, None}
use Rattle.lq_prover_case.specs.State.Flags.{find_given}
use Rattle.lq_prover_case.specs.State.PathState.{PathState}
use Rattle.lq_prover_case.specs.declared.state.flags.Given.{Given}
use Rattle.lq_logic_rows.specs.Row.{Row, Valuation}
use Rattle.lq_logic_predicates.specs.Points.{Point}
use Rattle.lq_logic_predicates.specs.Reading.{Reading}
use Rattle.lq_logic_predicates.specs.RowMeaning.{MeetsRows}
use Rattle.lq_logic_predicates.specs.declared.symbol.Symbol.{Symbol}

-- a flag that is given no value is false
abbrev pub given_value : Option Given → Bool
given_value (Some g) = g.value
given_value None = false

-- the point's flags are those that facts give
abbrev pub HasFlags : PathState → Point → Type 0
HasFlags s p = (x : Symbol) → p.holds x ≡ given_value (find_given s.flags x)

abbrev pub MeetsEachRow : Valuation → Point → List (Reading Row) → Type 0
MeetsEachRow v p [] = Unit {0}
MeetsEachRow v p (r ∷ rs) = MeetsRows v p r × MeetsEachRow v p rs
