-- A table of numbers of names.
use Rattle.std.specs.Prelude.{◌≡◌, ℕ, ◌+◌, ◌==◌, Bool, true, false, List, Option, Some, None, slice_index_or, if◌then◌else◌}
use Rattle.std.specs.Option.{option_or}

-- a name has this number from now on, unless it had one; others have what they had
abbrev pub IsNoted : List (Option ℕ) → List (Option ℕ) → ℕ → ℕ → Type 0
IsNoted old new at k =
    (x : ℕ) → slice_index_or new x None ≡ (if at == x then option_or (slice_index_or old x None) (Some k) else slice_index_or old x None)

-- where a name is a made one, it is noted as the next one
abbrev pub IsCounted : Bool → List (Option ℕ) → List (Option ℕ) → ℕ → ℕ → ℕ → Type 0
IsCounted true old new at before count = (count ≡ before + 1) × IsNoted old new at count
IsCounted false old new at before count = (count ≡ before) × (new ≡ old)
