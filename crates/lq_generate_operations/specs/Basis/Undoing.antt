-- Names that are bound one after another, and what each had before.
use Rattle.std.specs.Prelude.{◌≡◌, ℕ, ◌==◌, cond, List, [], ◌∷◌, map, slice_index_or, Option, Some, None}
use Rattle.lq_generate_operations.specs.declared.basis.names.Bound.{Bound}

-- the names with the numbers of their types that bindings add to others, the last first
abbrev pub bound_on : List (ℕ × ℕ) → List Bound → List (ℕ × ℕ)
bound_on ps [] = ps
bound_on ps (b ∷ bs) = bound_on ((b.name.0, b.row) ∷ ps) bs

-- the number of the type that a name has
abbrev pub row_in : List (ℕ × ℕ) → ℕ → Option ℕ
row_in [] x = None
row_in (p ∷ ps) x = cond (p.0 == x) (Some p.1) (row_in ps x)

-- what each name of some bindings had before it
abbrev pub befores_on : List (ℕ × ℕ) → List Bound → List (Option ℕ)
befores_on ps [] = []
befores_on ps (b ∷ bs) = row_in ps b.name.0 ∷ befores_on ((b.name.0, b.row) ∷ ps) bs

abbrev pub row_at : List (Option ℕ) → ℕ → Option ℕ
row_at rows x = slice_index_or rows x None

-- by their numbers stands what the names have
abbrev pub IsRight : List (Option ℕ) → List Bound → Type 0
IsRight rows bs = (x : ℕ) → row_at rows x ≡ row_in (bound_on [] bs) x

-- each binding keeps what its name had before it
abbrev pub AreUndone : List Bound → Type 0
AreUndone bs = map (λ b. b.before) bs ≡ befores_on [] bs
