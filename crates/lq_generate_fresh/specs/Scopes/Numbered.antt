-- The scopes of a table, made as lists of symbols under other numbers.
use Rattle.std.specs.Prelude.{◌≡◌, ℕ, ◌<◌, List, [], ◌++◌, length, map, slice_index_or}
use Rattle.lq_refined_instances.specs.Scopes.{Scope, scope_in}
use Rattle.lq_logic_predicates.specs.declared.symbol.Symbol.{Symbol}

abbrev pub symbols_of : Scope → List Symbol
symbols_of Γ = map (λ e. e.0) Γ

abbrev pub symbols_at : List Scope → ℕ → List Symbol
symbols_at all i = symbols_of (scope_in all i)

abbrev pub list_at : List (List Symbol) → ℕ → List Symbol
list_at lists i = slice_index_or lists i []

-- the first list is there, and it is empty
pub record Begins (lists : List (List Symbol)) : Type 0 where
  pub there : 0 < length lists
  pub empty : list_at lists 0 ≡ []

pub record Extends (old new : List (List Symbol)) : Type 0 where
  pub added : List (List Symbol)
  pub is : new ≡ old ++ added

-- the first scopes of the table have these numbers
pub record AreMade (all : List Scope) (lists : List (List Symbol)) (numbers : List ℕ) : Type 0 where
  pub there : (i : ℕ) → i < length numbers → slice_index_or numbers i 0 < length lists
  pub same : (i : ℕ) → i < length numbers → list_at lists (slice_index_or numbers i 0) ≡ symbols_at all i

-- all scopes of the table have these numbers, and those that aren't there have that of an empty one
pub record AreAllMade (all : List Scope) (lists : List (List Symbol)) (numbers : List ℕ) : Type 0 where
  pub there : (i : ℕ) → slice_index_or numbers i 0 < length lists
  pub same : (i : ℕ) → list_at lists (slice_index_or numbers i 0) ≡ symbols_at all i
