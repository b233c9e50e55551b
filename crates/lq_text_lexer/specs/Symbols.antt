-- The symbols.
use Rattle.std.specs.Prelude.{ℕ, List, [], ◌∷◌, codes, ◌==◌, Bool, ◌&&◌, if◌then◌else◌}
use Rattle.std.specs.List.{list_any}

-- the symbols of two bytes; the one symbol of three is <=>
abbrev pub pairs : List (ℕ × ℕ)
pairs =
    -- ;; -> <- :: <=
    (59, 59) ∷ (45, 62) ∷ (60, 45) ∷ (58, 58) ∷ (60, 61)
    -- >= <> && || .(
    ∷ (62, 61) ∷ (60, 62) ∷ (38, 38) ∷ (124, 124) ∷ (46, 40) ∷ []

abbrev pub is_pair : ℕ → ℕ → Bool
is_pair a b = list_any (λ p. p.0 == a && p.1 == b) pairs

abbrev pub is_triple : ℕ → ℕ → ℕ → Bool
is_triple a b c = a == 60 && b == 61 && c == 62

-- the symbols of one byte
abbrev pub is_single : ℕ → Bool
is_single a = list_any (λ s. s == a) (codes "()[],;:|=<>+-*/.")

-- how many bytes the longest symbol at the front has; 0 where none stands there
unfoldable pub symbol_len : List ℕ → ℕ
symbol_len [] = 0
symbol_len (a ∷ []) = if is_single a then 1 else 0
symbol_len (a ∷ b ∷ []) = if is_pair a b then 2 else if is_single a then 1 else 0
symbol_len (a ∷ b ∷ c ∷ bytes) = if is_triple a b c then 3 else if is_pair a b then 2 else if is_single a then 1 else 0
