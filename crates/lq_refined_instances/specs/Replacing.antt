-- Replacements that grow by one placeholder after another.
use Rattle.std.specs.Prelude.{Bool, true, false, List, [], ◌∷◌, ◌++◌, map}
use Rattle.std.specs.List.{flat_map}
use Rattle.lq_logic_predicates.specs.declared.symbol.Symbol.{Symbol}

-- a list with each of the symbols behind it
abbrev pub longer : List Symbol → List Symbol → List (List Symbol)
longer xs l = map (λ x. l ++ x ∷ []) xs

abbrev pub each_longer : List Symbol → List (List Symbol) → List (List Symbol)
each_longer xs ls = flat_map (longer xs) ls

abbrev pub is_empty : List Symbol → Bool
is_empty [] = true
is_empty (x ∷ xs) = false
