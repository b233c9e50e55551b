-- No point solves rows that sum to a contradiction.
use Rattle.std.proofs.Common.{◌≡◌, ℕ, pos, sym, ap, subst, ◌∙◌, Bool, true, false, List, [], ◌∷◌, Option, Some, MatchBool, if◌then◌else◌, ◌==◌}
use Rattle.lq_base_numbers.specs.Rationals.Rational.{ℚ, whole, ◌*ℚ◌}
use Rattle.lq_base_numbers.specs.Rationals.RationalRing.{*ℚ_zero}
use Rattle.lq_base_numbers.specs.Rationals.RationalOrder.{◌≤ℚ◌, NotNegative, ≤ℚ_refl, sum_at_most, product_at_most}
use Rattle.lq_logic_rows.specs.Row.{Row, Valuation, level, RowHolds}
use Rattle.lq_logic_rows.specs.Contradiction.{Tagged, Solves, tagged, IsFair, AllFair, level_of, weighted, IsContradiction}

-- a row that holds, times a fair multiplier
one : (v : Valuation) (row : Row) (m : ℚ) → RowHolds v row → IsFair (Some row) m → (m *ℚ level v row) ≤ℚ whole (pos 0)
one v row m h f = by row.equal h f
  where
    by : (b : Bool) → MatchBool b (level v row ≡ whole (pos 0)) (level v row ≤ℚ whole (pos 0)) → MatchBool b (Unit {0}) (NotNegative m) → (m *ℚ level v row) ≤ℚ whole (pos 0)
    by true h f = subst (λ x. x ≤ℚ whole (pos 0)) (sym (ap (λ x. m *ℚ x) h ∙ *ℚ_zero m)) (≤ℚ_refl (whole (pos 0)))
    by false h f = product_at_most m (level v row) f h

holds_at : (v : Valuation) (rows : Tagged) (tag : ℕ) (m : ℚ) → Solves v rows → IsFair (tagged rows tag) m → (m *ℚ level_of v (tagged rows tag)) ≤ℚ whole (pos 0)
holds_at v [] tag m s f = absurd f
holds_at v (r ∷ rows) tag m s f = pick v r.1 (tagged rows tag) m s.0 (λ g. holds_at v rows tag m s.1 g) (r.0 == tag) f
  where
    pick : (v : Valuation) (row : Row) (o : Option Row) (m : ℚ) → RowHolds v row → (IsFair o m → (m *ℚ level_of v o) ≤ℚ whole (pos 0))
        → (b : Bool) → IsFair (if b then Some row else o) m → (m *ℚ level_of v (if b then Some row else o)) ≤ℚ whole (pos 0)
    pick v row o m h rest true f = one v row m h f
    pick v row o m h rest false f = rest f

pub weighted_at_most : (v : Valuation) (rows : Tagged) (ms : List (ℕ × ℚ)) → Solves v rows → AllFair rows ms → weighted v rows ms ≤ℚ whole (pos 0)
weighted_at_most v rows [] s f = (≤ℚ_refl (whole (pos 0)))
weighted_at_most v rows (m ∷ ms) s f = sum_at_most _ _ (holds_at v rows m.0 m.1 s f.0) (weighted_at_most v rows ms s f.1)

-- the easy half of Farkas' lemma
pub clash : (v : Valuation) (rows : Tagged) (ms : List (ℕ × ℚ)) → Solves v rows → IsContradiction rows ms → ⊥
clash v rows ms s c = c.above (subst (λ x. x ≤ℚ whole (pos 0)) (c.sum v) (weighted_at_most v rows ms s c.fair))
