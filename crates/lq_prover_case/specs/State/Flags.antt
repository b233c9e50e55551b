-- The facts that give flags their values.
use Rattle.std.specs.Prelude.{◌≡◌, ℕ, Bool, not, List, [], ◌∷◌, ◌++◌, Option, Some, None}
use Rattle.std.specs.Map.{lookup}
use Rattle.lq_logic_predicates.specs.Sum.{same_symbol}
use Rattle.lq_logic_predicates.specs.declared.symbol.Symbol.{Symbol}
use Rattle.lq_prover_proof_tree.specs.Trees.Path.{Fact, flag_fact, numbered_at}
use Rattle.lq_prover_case.specs.declared.state.flags.FlagClash.{FlagClash}
use Rattle.lq_prover_case.specs.declared.state.flags.Given.{Given}

abbrev pub find_given : List (Symbol × Given) → Symbol → Option Given
find_given entries x = lookup (same_symbol x) entries

-- A flag is given a value by the fact of a number, and there is a fact that gave it the other one, or there isn't.
pub data GivenNow (old new : List (Symbol × Given)) (x : Symbol) (value : Bool) (number : ℕ) : Option ℕ → Type 0 where
  first : find_given old x ≡ None → new ≡ old ++ (x, record { number = number; value = value }) ∷ [] → GivenNow old new x value number None
  again : (g : Given) → find_given old x ≡ Some g → g.value ≡ value → new ≡ old → GivenNow old new x value number None
  other : (g : Given) → find_given old x ≡ Some g → g.value ≡ not value → new ≡ old → GivenNow old new x value number (Some g.number)

-- two facts give one flag two values
pub record IsFlagClash (facts : List Fact) (c : FlagClash) : Type 0 where
  pub flag : Symbol
  pub value : Bool
  pub is_first : numbered_at facts c.first ≡ Some (flag_fact flag value)
  pub is_second : numbered_at facts c.second ≡ Some (flag_fact flag (not value))

abbrev pub IsClash : List Fact → Option FlagClash → Type 0
IsClash facts None = Unit {0}
IsClash facts (Some c) = IsFlagClash facts c

-- the flag has the value
abbrev pub HasValue : List (Symbol × Given) → Symbol → Bool → Type 0
HasValue entries x value = (g : Given) × (find_given entries x ≡ Some g) × (g.value ≡ value)

-- the flags have the values that facts give them, and where no clash is known all that facts give them
pub record AreFlagsOf (facts : List Fact) (entries : List (Symbol × Given)) (clash : Option FlagClash) : Type 0 where
  pub given : (x : Symbol) (g : Given) → find_given entries x ≡ Some g → numbered_at facts g.number ≡ Some (flag_fact x g.value)
  pub is_clash : IsClash facts clash
  pub agree : clash ≡ None → (k : ℕ) (x : Symbol) (value : Bool) → numbered_at facts k ≡ Some (flag_fact x value) → HasValue entries x value

-- the first clash that is known
abbrev pub clash_after : Option FlagClash → Option ℕ → ℕ → Option FlagClash
clash_after (Some c) o n = Some c
clash_after None (Some m) n = Some (record { first = m; second = n })
clash_after None None n = None
