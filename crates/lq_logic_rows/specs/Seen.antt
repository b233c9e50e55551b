-- A level sees only the terms of the row.
use Rattle.std.proofs.Common.{◌≡◌, ℕ, ℤ, List, [], ◌∷◌, refl, ap, ap₂}
use Rattle.std.specs.List.{All}
use Rattle.std.proofs.lemmas.List.Elements.{All-head, All-tail}
use Rattle.lq_base_numbers.specs.Rationals.Rational.{whole, ◌+ℚ◌, ◌*ℚ◌}
use Rattle.lq_logic_rows.specs.Row.{Row, Valuation, sum_at, level}

-- the two valuations have the same value for each term of these
abbrev pub AgreeOn : Valuation → Valuation → List (ℕ × ℤ) → Type 0
AgreeOn v w parts = All (λ part. v part.0 ≡ w part.0) parts

sum_seen : (v w : Valuation) (parts : List (ℕ × ℤ)) → AgreeOn v w parts → sum_at v parts ≡ sum_at w parts
sum_seen v w [] h = refl
sum_seen v w (part ∷ parts) h =
    ap₂ (λ x y. whole part.1 *ℚ x +ℚ y) (All-head (λ (p : ℕ × ℤ). v p.0 ≡ w p.0) part parts h) (sum_seen v w parts (All-tail (λ (p : ℕ × ℤ). v p.0 ≡ w p.0) part parts h))

pub level_seen : (v w : Valuation) (row : Row) → AgreeOn v w row.parts → level v row ≡ level w row
level_seen v w row h = ap (λ x. x +ℚ whole row.constant) (sum_seen v w row.parts h)
