-- Readings that are stored by place and number, and where they are right.
use Rattle.std.specs.Prelude.{◌≡◌, ℕ, List, Option, Some, slice_get}
use Rattle.std.specs.Option.{option_and_then, option_flatten, option_map}
use Rattle.lq_solve_facts.specs.Facts.Known.{IsReadOf}
use Rattle.lq_solve_facts.specs.declared.facts.known.Known.{Known}
use Rattle.lq_solve_facts.specs.declared.facts.read.ReadPred.{ReadPred}
use Rattle.lq_logic_predicates.specs.Formula.{Formula}
use Rattle.lq_solve_facts.specs.declared.store.store.PartPlace.{PartPlace}
use Rattle.lq_solve_facts.specs.declared.store.store.PartPlace.TheVariants.{Environment, Goal, Left}
use Rattle.lq_solve_facts.specs.declared.store.store.Row.{Row}
use Rattle.lq_solve_facts.specs.declared.store.store.Rows.{Rows}
use Rattle.lq_solve_facts.specs.declared.store.store.Store.{Store}

abbrev pub read_in : Row → ℕ → Option ReadPred
read_in row n = option_map (λ r. r.value) (option_flatten (slice_get row.reads.items n))

abbrev pub read_at : Rows → ℕ → ℕ → Option ReadPred
read_at rows i n = option_and_then (λ row. read_in row n) (slice_get rows.rows.items i)

abbrev pub left_at : List Rows → ℕ → ℕ → ℕ → Option ReadPred
left_at lefts j i n = option_and_then (λ rows. read_at rows i n) (slice_get lefts j)

-- the reading at a place under a number, if it is stored
abbrev pub stored_at : Store → PartPlace → ℕ → Option ReadPred
stored_at s (Environment env) n = read_at s.environments env n
stored_at s (Goal at) n = read_at s.goals at n
stored_at s (Left at behind) n = left_at s.lefts.items at behind n

-- for each place and number the formula that stands there, if there is one
abbrev pub Standing : Type 0
Standing = PartPlace → ℕ → Option Formula

-- each stored reading is that of the formula that stands there
abbrev pub AreStored : Standing → Known → Store → Type 0
AreStored F known store = (q : PartPlace) (n : ℕ) (r : ReadPred) (h : Formula) → stored_at store q n ≡ Some r → F q n ≡ Some h → IsReadOf known r h
