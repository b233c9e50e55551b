-- Entries of a matrix, one behind the other, the bracket before them open or not.
use Rattle.std.specs.Prelude.{ℕ, Bool, true, false, List, [], ◌∷◌, ◌++◌, codes}
use Rattle.lq_top_answers.specs.TypeText.Types.{each_behind}

-- what stands before an entry
abbrev pub opening : Bool → List ℕ
opening true = codes "; "
opening false = codes " ["

-- whether the bracket is open behind these entries
abbrev pub is_open_behind : Bool → List (List ℕ) → Bool
is_open_behind b [] = b
is_open_behind b (t ∷ ts) = true

-- the text of these entries
abbrev pub more_entries : Bool → List (List ℕ) → List ℕ
more_entries b [] = []
more_entries b (t ∷ ts) = opening b ++ t ++ each_behind (codes "; ") ts
