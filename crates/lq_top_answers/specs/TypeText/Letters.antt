-- The letters of type variables: by first appearance, from left to right as a type is written.
use Rattle.std.specs.Prelude.{ℕ, ◌+◌, ◌/◌, ◌%◌, ◌==◌, nat_lt, List, [], ◌∷◌, ◌++◌, Option, Some, None, codes, decimal, if◌then◌else◌}
use Rattle.std.specs.List.{position}
use Rattle.lq_refined_types.specs.Types.Refined.{Refined, int_with, bool_with, unit_type, function, tuple_of, array_with, data_with, map_with, type_variable, Refineds, none, more}

-- which of the variables that have letters this one is
abbrev pub place_in : List ℕ → ℕ → Option ℕ
place_in seen i = position (λ j. j == i) seen

-- a variable that has no letter yet comes last
abbrev pub seen_at : List ℕ → ℕ → Option ℕ → List ℕ
seen_at seen i (Some k) = seen
seen_at seen i None = seen ++ i ∷ []

-- the variables that have letters once a type is written, where these had letters before
abbrev mutual
  pub seen_in : List ℕ → Refined → List ℕ
  seen_in seen (int_with p) = seen
  seen_in seen (bool_with p) = seen
  seen_in seen unit_type = seen
  seen_in seen (function x a b) = seen_in (seen_in seen a) b
  seen_in seen (tuple_of ts) = seen_in_all seen ts
  seen_in seen (array_with e p) = seen_in seen e
  seen_in seen (data_with d ts m p) = seen_in_all seen ts
  seen_in seen (map_with e p) = seen_in seen e
  seen_in seen (type_variable i) = seen_at seen i (place_in seen i)

  pub seen_in_all : List ℕ → Refineds → List ℕ
  seen_in_all seen none = seen
  seen_in_all seen (more t ts) = seen_in_all (seen_in seen t) ts

-- the variables of a type, each once
abbrev pub letters : Refined → List ℕ
letters t = seen_in [] t

-- 'a to 'z, then 'a1 to 'z1, 'a2 and so on
abbrev pub letter_text : ℕ → List ℕ
letter_text k = codes "'" ++ (97 + k % 26) ∷ (if nat_lt k 26 then [] else decimal (k / 26))

abbrev pub text_at : Option ℕ → List ℕ
text_at (Some k) = letter_text k
text_at None = []

abbrev pub variable_text : List ℕ → ℕ → List ℕ
variable_text seen i = text_at (place_in seen i)
