-- The forms of rows: their divisors and their multiples.
use Rattle.std.specs.Prelude.{◌≡◌, ◌≢◌, ◌*ℤ◌, ℕ, ℤ, pos, Bool, true, false, List, [], ◌∷◌, unsigned_abs}
use Rattle.std.specs.Int.{◌∣◌}
use Rattle.std.specs.Int.Signed.{◌<ℤ◌}

-- pairs of a term's number and its coefficient
abbrev pub Parts : Type 0
Parts = List (ℕ × ℤ)

-- the number divides each coefficient
abbrev pub DividesAll : ℕ → Parts → Type 0
DividesAll d [] = Unit {0}
DividesAll d (part ∷ parts) = (d ∣ unsigned_abs part.1) × DividesAll d parts

-- the first coefficient is above 0, or, where it is turned, below
abbrev pub IsAbove : Bool → ℤ → Type 0
IsAbove true n = n <ℤ pos 0
IsAbove false n = pos 0 <ℤ n

abbrev pub FirstAbove : Bool → Parts → Type 0
FirstAbove turned [] = ⊥
FirstAbove turned (part ∷ parts) = IsAbove turned part.1

-- the first coefficient is above 0, and no number but 1 divides all
pub record IsNormal (form : Parts) : Type 0 where
  pub above : FirstAbove false form
  pub lowest : (d : ℕ) → DividesAll d form → d ≡ 1

-- each coefficient so many times
abbrev pub times : ℤ → Parts → Parts
times d [] = []
times d (part ∷ parts) = (part.0, d *ℤ part.1) ∷ times d parts

-- a multiple of the form, and not by 0
pub record IsMultiple (form parts : Parts) : Type 0 where
  pub factor : ℤ
  pub some : ¬ (factor ≡ pos 0)
  pub is : parts ≡ times factor form

-- at each place the same term, and so many times the one coefficient is so many times the other
abbrev pub Scales : ℤ → ℤ → Parts → Parts → Type 0
Scales left right [] [] = Unit {0}
Scales left right [] (q ∷ qs) = ⊥
Scales left right (p ∷ ps) [] = ⊥
Scales left right (p ∷ ps) (q ∷ qs) = (p.0 ≡ q.0) × (left *ℤ p.1 ≡ right *ℤ q.1) × Scales left right ps qs

-- whole multiples of the two agree, neither of them by 0
pub record AreMultiples (parts others : Parts) : Type 0 where
  pub left : ℤ
  pub right : ℤ
  pub left_apart : left ≢ pos 0
  pub right_apart : right ≢ pos 0
  pub same : Scales left right parts others
