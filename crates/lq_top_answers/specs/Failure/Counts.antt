-- How often names were counted.
use Rattle.std.specs.Prelude.{◌≡◌, ℕ, ◌+◌, ◌==◌, List, Option, Some, None, slice_index_or, if◌then◌else◌}

-- the count that is kept for a name, and 0 where none is
abbrev pub count_of : List ℕ → ℕ → ℕ
count_of counts x = slice_index_or counts x 0

-- A name is counted once more and has this number; what was made has the number 0.
abbrev pub IsCounted : List ℕ → List ℕ → Option ℕ → ℕ → Type 0
IsCounted old new None n = (n ≡ 0) × ((x : ℕ) → count_of new x ≡ count_of old x)
IsCounted old new (Some name) n = (n ≡ count_of old name + 1) × ((x : ℕ) → count_of new x ≡ (if name == x then count_of old x + 1 else count_of old x))
