-- Rows under the tags from a number on.
use Rattle.std.proofs.Common.{◌≡◌, ℕ, suc, zero, ◌+◌, ◌≤◌, [], ◌∷◌, ◌++◌, length, take, arith, Bool, true, false, if◌then◌else◌, ◌==◌, Some, refl}
use Rattle.std.specs.Option.{IsNone}
use Rattle.std.proofs.lemmas.Bool.{eqb-true}
use Rattle.lq_logic_rows.specs.Row.{Row}
use Rattle.lq_logic_rows.specs.Contradiction.{Tagged, tagged}
use Rattle.lq_cases_engines.specs.Differences.Numbered.{AreNumbered}

pub numbered_fresh : (n : ℕ) (rows : Tagged) (tag : ℕ) → AreNumbered n rows → n + length rows ≤ tag → IsNone (tagged rows tag)
numbered_fresh n [] tag h l = refl
numbered_fresh n (r ∷ rows) tag h l = by (numbered_fresh (suc n) rows tag h.1 (omega arith)) (r.0 == tag) refl
  where
    by : IsNone (tagged rows tag) → (b : Bool) → (r.0 == tag) ≡ b → IsNone (if b then Some r.1 else tagged rows tag)
    by rest true e = let k = eqb-true r.0 tag e in let m = h.0 in absurd (omega arith)
    by rest false e = rest

pub numbered_push : (n : ℕ) (rows : Tagged) (tag : ℕ) (row : Row) → AreNumbered n rows → tag ≡ n + length rows → AreNumbered n (rows ++ (tag, row) ∷ [])
numbered_push n [] tag row h e = (omega arith, tt)
numbered_push n (r ∷ rows) tag row h e = (h.0, numbered_push (suc n) rows tag row h.1 (omega arith))

pub numbered_take : (n k : ℕ) (rows : Tagged) → AreNumbered n rows → AreNumbered n (take k rows)
numbered_take n zero rows h = tt
numbered_take n (suc k) [] h = tt
numbered_take n (suc k) (r ∷ rows) h = (h.0, numbered_take (suc n) k rows h.1)
