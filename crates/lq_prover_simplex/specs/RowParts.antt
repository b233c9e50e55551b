-- The parts of a row: their signs, their divisors and their multiples.
use Rattle.std.specs.Prelude.{◌≡◌, ◌*ℤ◌, neg_ℤ, ℕ, ℤ, Bool, true, false, [], ◌∷◌}
use Rattle.std.specs.Int.{◌∣◌}
use Rattle.lq_logic_rows.specs.Forms.{Parts, DividesAll}

-- each number that divides all coefficients divides this one
abbrev pub IsGreatest : ℕ → Parts → Type 0
IsGreatest d parts = (e : ℕ) → DividesAll e parts → e ∣ d

-- each coefficient as it is, or negated
abbrev pub turned_by : Bool → ℤ → ℤ
turned_by true n = neg_ℤ n
turned_by false n = n

abbrev pub IsTurned : Bool → Parts → Parts → Type 0
IsTurned turned [] [] = Unit {0}
IsTurned turned [] (new ∷ news) = ⊥
IsTurned turned (old ∷ olds) [] = ⊥
IsTurned turned (old ∷ olds) (new ∷ news) = (new.0 ≡ old.0) × (new.1 ≡ turned_by turned old.1) × IsTurned turned olds news

-- each coefficient divided
abbrev pub IsDivided : ℤ → Parts → Parts → Type 0
IsDivided by [] [] = Unit {0}
IsDivided by [] (new ∷ news) = ⊥
IsDivided by (old ∷ olds) [] = ⊥
IsDivided by (old ∷ olds) (new ∷ news) = (new.0 ≡ old.0) × (old.1 ≡ new.1 *ℤ by) × IsDivided by olds news
