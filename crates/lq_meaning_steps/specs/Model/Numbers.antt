-- Numbers in the meaning of a program have no bound: whatever two whole numbers are, arithmetic on them is that of whole numbers.
use Rattle.std.specs.Prelude.{◌≡◌, ◌≢◌, ℕ, ◌<◌, ℤ, pos, ◌+ℤ◌, ◌-ℤ◌, ◌*ℤ◌, ◌≤ℤ◌, unsigned_abs, List, [], ◌∷◌}
use Rattle.lq_base_names.specs.declared.place.Place.{Place}
use Rattle.lq_meaning_steps.specs.Model.Core.{empty, Core, val, one, two, negate, print, read, Arithmetic, sum, difference, product, quotient, remainder, arithmetic, v_whole, v_unit}
use Rattle.lq_meaning_steps.specs.Model.Program.{let_item, finished, outcome}

-- `let () = print_int (e)` ends on this input after some steps, and prints this number
abbrev pub Prints : Core → List ℤ → ℤ → Type 0
Prints e input k = (n : ℕ) × (outcome (let_item empty (one print e) ∷ []) input n ≡ record { ending = finished; output = k ∷ [] })

abbrev pub on_numbers : Arithmetic → ℤ → ℤ → Core
on_numbers o m n = two (arithmetic o) (val (v_whole m)) (val (v_whole n))

-- each literal and each number of the input is itself, and each result is the whole number that it is in arithmetic
abbrev pub HaveNoBound : Type 0
HaveNoBound =
    (m n : ℤ) (p : Place) (input : List ℤ)
    → Prints (val (v_whole m)) input m
    × Prints (one (read p) (val v_unit)) (m ∷ input) m
    × Prints (one negate (val (v_whole m))) input (pos 0 -ℤ m)
    × Prints (on_numbers sum m n) input (m +ℤ n)
    × Prints (on_numbers difference m n) input (m -ℤ n)
    × Prints (on_numbers product m n) input (m *ℤ n)

-- The quotient q and the remainder r of two numbers, where the divisor isn't 0: q times the divisor plus r is the dividend, r is smaller in
-- size than the divisor, and has the sign of the dividend or is 0. So q is rounded toward 0.
abbrev pub IsDivision : ℤ → ℤ → ℤ → ℤ → Type 0
IsDivision m n q r =
    (q *ℤ n +ℤ r ≡ m) × (unsigned_abs r < unsigned_abs n) × (pos 0 ≤ℤ m → pos 0 ≤ℤ r) × (m ≤ℤ pos 0 → r ≤ℤ pos 0)

abbrev pub DividesTowardZero : Type 0
DividesTowardZero =
    (m n : ℤ) (p : Place) (input : List ℤ) → n ≢ pos 0
    → (q : ℤ) × (r : ℤ) × Prints (on_numbers (quotient p) m n) input q × Prints (on_numbers (remainder p) m n) input r × IsDivision m n q r
