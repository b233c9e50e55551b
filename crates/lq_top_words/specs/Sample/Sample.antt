-- Sample programs, their qualifiers, and the lines of their counts.
use Rattle.std.specs.Prelude.{ℕ, zero, suc, List, [], ◌++◌, codes, decimal}

-- a number behind a word
abbrev pub numbered : List ℕ → ℕ → List ℕ
numbered word i = word ++ decimal i

-- the i-th function
unfoldable pub function_text : ℕ → List ℕ
function_text i = numbered (codes "let rec f") i ++ (numbered (codes " n = if n <= 0 then 0 else ") i
    ++ (numbered (codes " + f") i ++ codes " (n - 1)\n"))

-- the assertion about it
unfoldable pub assertion_text : ℕ → List ℕ
assertion_text i =
    numbered (codes "let () = assert (0 <= f") i ++ (numbered (codes " ") i ++ codes ")\n")

-- a function and its assertion for each number from 1 to count
abbrev pub sample_program_text : ℕ → List ℕ
sample_program_text zero = []
sample_program_text (suc n) =
    sample_program_text n ++ (function_text (suc n) ++ assertion_text (suc n))

abbrev pub sample_qualifiers_text : List ℕ
sample_qualifiers_text = codes "qualif Nat (v : int): 0 <= v\n"

-- a line with a word and a number
abbrev pub count_line : List ℕ → ℕ → List ℕ
count_line word n = numbered word n ++ codes "\n"

abbrev pub counts_text : ℕ → ℕ → ℕ → ℕ → List ℕ
counts_text functions unknowns instances implications = count_line (codes "functions ") functions
    ++ (count_line (codes "unknowns ") unknowns ++ (count_line (codes "instances ") instances
    ++ count_line (codes "implications ") implications))
