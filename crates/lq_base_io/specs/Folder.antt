-- What a folder holds, and what a fetch may answer.
use Rattle.std.specs.Prelude.{◌≡◌, ◌<◌, ℕ, List, length, Option, Some, None, Result, Ok, Err}
use Rattle.lq_base_io.specs.declared.folder.FetchError.{FetchError}
use Rattle.lq_base_io.specs.declared.folder.FetchError.TheVariants.{Absent, Failed, TooLong, Memory}

-- the bytes of each name that has a file
abbrev pub Files : Type 0
Files = List ℕ → Option (List ℕ)

-- The answer is right where this is held under the name, unless memory ran out or the folder failed.
abbrev pub Answers : {T : Type 0} → Option (List ℕ) → ℕ → List ℕ → Result T FetchError → Type 0
Answers held limit got (Ok _) = held ≡ Some got
Answers held limit got (Err Absent) = held ≡ None
Answers held limit got (Err Failed) = Unit {0}
Answers held limit got (Err TooLong) = (bytes : List ℕ) × (held ≡ Some bytes) × (limit < length bytes)
Answers held limit got (Err Memory) = Unit {0}
