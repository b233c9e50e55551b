-- The size of a determinant whose rows are units but for some.
use Rattle.std.proofs.Common.{◌≡◌, ◌≢◌, ℕ, zero, suc, pos, ◌+◌, ◌*◌, ◌<◌, ◌≤◌, ◌⊎◌, inl, inr, arith, refl, sym, ap, subst, ◌∙◌, [], ◌∷◌, Bool, true, false}
use Rattle.std.proofs.lemmas.Bool.{cases_eq}
use Rattle.lq_base_numbers.specs.Rationals.Rational.{ℚ, whole, ◌*ℚ◌}
use Rattle.lq_base_numbers.specs.Rationals.Solver.{var, con, ◌⊗◌, solve}
use Rattle.lq_prover_pivots.specs.Pivots.Ranges.{sum_below, one_if, count_below}
use Rattle.lq_prover_pivots.proofs.PivotsLemmas.Ranges.{unit, unit_here, unit_elsewhere}
use Rattle.lq_prover_pivots.specs.Cramer.Determinants.{Rows, past, without, sign, det}
use Rattle.lq_prover_pivots.specs.Cramer.Sizes.{WithinWhole, limit}
use Rattle.lq_prover_pivots.proofs.CramerLemmas.Places.{past_below, place, past_place, place_below}
use Rattle.lq_prover_pivots.proofs.CramerLemmas.Linear.{part, linear_sum}
use Rattle.lq_prover_pivots.proofs.CramerLemmas.Cramer.{sum_only, put_self, unit_next}
use Rattle.lq_prover_pivots.proofs.CramerLemmas.Sizes.{mul_at_most, within_same, within_more, within_one, within_product, within_sign, limit_some, limit_next, count_some, count_past, within_sum_below}

-- the row is 1 at one column and 0 elsewhere, or 0 throughout
pub record IsUnit (n : ℕ) (row : ℕ → ℚ) : Type 0 where
  pub column : ℕ
  pub is : (b : ℕ) → b < n → row b ≡ unit column b

-- the rows that are wide have entries of size at most c, the others are units
pub record AreWide (n c : ℕ) (wide : ℕ → Bool) (rows : Rows) : Type 0 where
  pub sized : (a b : ℕ) → a < n → b < n → wide a ≡ true → WithinWhole c (rows a b)
  pub units : (a : ℕ) → a < n → wide a ≡ false → IsUnit n (rows a)

pub zero_row : (n i : ℕ) (rows : Rows) → i < n → ((b : ℕ) → b < n → rows i b ≡ whole (pos 0)) → det n rows ≡ whole (pos 0)
zero_row n i rows l h =
    sym (put_self n i rows (λ b. sum_below 0 (λ j. whole (pos 0) *ℚ rows j b)) (λ b m. sym (h b m)))
    ∙ linear_sum 0 n i rows (λ j. whole (pos 0)) rows l

next_unit : (n : ℕ) (row : ℕ → ℚ) → IsUnit (suc n) row → IsUnit n (λ b. row (suc b))
next_unit n row is = by is.column is.is
  where
    by : (t : ℕ) → ((b : ℕ) → b < suc n → row b ≡ unit t b) → IsUnit n (λ b. row (suc b))
    by zero h = record {
      column = n;
      is = λ b l. h (suc b) (omega arith) ∙ unit_elsewhere 0 (suc b) (λ e. absurd (omega arith)) ∙ sym (unit_elsewhere n b (λ e. absurd (omega arith)));
    }
    by (suc t) h = record { column = t; is = λ b l. h (suc b) (omega arith) ∙ unit_next t b }

next_wide : (n c k : ℕ) (wide : ℕ → Bool) (rows : Rows) → AreWide (suc n) c wide rows → AreWide n c (λ a. wide (past k a)) (without k rows)
next_wide n c k wide rows are = record {
  sized = λ a b l m e. are.sized (past k a) (suc b) (past_below k a n l) (omega arith) e;
  units = λ a l e. next_unit n (rows (past k a)) (are.units (past k a) (past_below k a n l) e);
}

-- a row that isn't wide and is the first unit, or none
record HasFirst (n m : ℕ) (wide : ℕ → Bool) (rows : Rows) : Type 0 where
  row : ℕ
  inside : row < m
  narrow : wide row ≡ false
  is : (b : ℕ) → b < n → rows row b ≡ unit 0 b

abbrev HasNone : ℕ → (ℕ → Bool) → Rows → Type 0
HasNone m wide rows = (a : ℕ) → a < m → wide a ≡ false → rows a 0 ≡ whole (pos 0)

find : (n c m : ℕ) (wide : ℕ → Bool) (rows : Rows) → m ≤ suc n → AreWide (suc n) c wide rows → HasFirst (suc n) m wide rows ⊎ HasNone m wide rows
find n c zero wide rows l are = inr (λ a m e. absurd (omega arith))
find n c (suc m) wide rows l are = by (find n c m wide rows (omega arith) are) (wide m) refl
  where
    more : HasNone m wide rows → (wide m ≡ false → rows m 0 ≡ whole (pos 0)) → HasNone (suc m) wide rows
    more none h a o e = elim (cases_eq a m) [
      | inl q ↦ subst (λ t. wide t ≡ false → rows t 0 ≡ whole (pos 0)) (sym q) h e
      | inr q ↦ none a (omega arith) e
    ]

    column : HasNone m wide rows → wide m ≡ false → (t : ℕ) → ((b : ℕ) → b < suc n → rows m b ≡ unit t b) → HasFirst (suc n) (suc m) wide rows ⊎ HasNone (suc m) wide rows
    column none e zero h = inl (record { row = m; inside = omega arith; narrow = e; is = h })
    column none e (suc t) h = inr (more none (λ f. h 0 (omega arith) ∙ unit_elsewhere (suc t) 0 (λ q. absurd (omega arith))))

    by : HasFirst (suc n) m wide rows ⊎ HasNone m wide rows → (b : Bool) → wide m ≡ b → HasFirst (suc n) (suc m) wide rows ⊎ HasNone (suc m) wide rows
    by (inl first) b e = let o = first.inside in inl (record { row = first.row; inside = omega arith; narrow = first.narrow; is = first.is })
    by (inr none) true e = inr (more none (λ f. absurd (cc)))
    by (inr none) false e = let u = are.units m (omega arith) e in column none e u.column u.is

-- with r wide rows at most, the determinant is whole and of size at most r! * c^r
pub bounded : (n r c : ℕ) (wide : ℕ → Bool) (rows : Rows) → 1 ≤ c → count_below n wide ≤ r → AreWide n c wide rows → WithinWhole (limit r c) (det n rows)
bounded zero r c wide rows h l are = within_one (limit r c) (limit_some r c h)
bounded (suc n) r c wide rows h l are =
    by r l (find n c (suc n) wide rows (omega arith) are)
    (λ k r m. bounded n r c (λ a. wide (past k a)) (without k rows) h m (next_wide n c k wide rows are))
  where
    others : (first : HasFirst (suc n) (suc n) wide rows) (k : ℕ) → k < suc n → k ≢ first.row → part n rows k ≡ whole (pos 0)
    others first k m u =
        let i : ℕ = first.row in
        let e : past k (place k i) ≡ i = past_place k i u in
        ap (λ t. sign k *ℚ rows k 0 *ℚ t)
        (zero_row n (place k i) (without k rows) (place_below k i n u m first.inside)
        (λ b o. ap (λ t. rows t (suc b)) e ∙ first.is (suc b) (omega arith) ∙ unit_elsewhere 0 (suc b) (λ q. absurd (omega arith))))
        ∙ solve (sign k ∷ rows k 0 ∷ []) (var 0 ⊗ var 1 ⊗ con (pos 0)) (con (pos 0)) refl

    by : (r : ℕ) → count_below (suc n) wide ≤ r → HasFirst (suc n) (suc n) wide rows ⊎ HasNone (suc n) wide rows
        → ((k r : ℕ) → count_below n (λ a. wide (past k a)) ≤ r → WithinWhole (limit r c) (det n (without k rows))) → WithinWhole (limit r c) (det (suc n) rows)
    by r l (inl first) before =
        let i : ℕ = first.row in
        let count : count_below n (λ a. wide (past i a)) + one_if (wide i) ≡ count_below (suc n) wide = count_past n i wide first.inside in
        within_same (limit r c) (det (suc n) rows) (sign i *ℚ det n (without i rows))
        (sum_only (suc n) i (part n rows) first.inside (others first)
        ∙ ap (λ t. sign i *ℚ t *ℚ det n (without i rows)) (first.is 0 (omega arith) ∙ unit_here 0)
        ∙ solve (sign i ∷ det n (without i rows) ∷ []) (var 0 ⊗ con (pos 1) ⊗ var 1) (var 0 ⊗ var 1) refl)
        (within_more (1 * limit r c) (limit r c) (sign i *ℚ det n (without i rows)) (omega arith)
        (within_product 1 (limit r c) (sign i) (det n (without i rows)) (within_sign i) (before i r (omega arith))))
    by zero l (inr none) before =
        within_more (count_below (suc n) wide * 0) (limit 0 c) (det (suc n) rows) (omega arith)
        (within_sum_below (suc n) 0 (part n rows) wide
        (λ k m e. let o = count_some (suc n) k wide m e in absurd (omega arith))
        (λ k m e. ap (λ t. sign k *ℚ t *ℚ det n (without k rows)) (none k m e)
        ∙ solve (sign k ∷ det n (without k rows) ∷ []) (var 0 ⊗ con (pos 0) ⊗ var 1) (con (pos 0)) refl))
    by (suc r) l (inr none) before =
        let s : ℕ = c * limit r c in
        let e : suc r * s ≡ limit (suc r) c = limit_next r c in
        let f : count_below (suc n) wide * s ≤ suc r * s = mul_at_most (count_below (suc n) wide) s (suc r) s l (omega arith) in
        within_more (count_below (suc n) wide * s) (limit (suc r) c) (det (suc n) rows) (subst (λ t. count_below (suc n) wide * s ≤ t) e f)
        (within_sum_below (suc n) s (part n rows) wide
        (λ k m w.
        let count : count_below n (λ a. wide (past k a)) + one_if (wide k) ≡ count_below (suc n) wide = count_past n k wide m in
        let one : one_if (wide k) ≡ 1 = ap one_if w in
        within_more (1 * c * limit r c) s (part n rows k) (omega arith)
        (within_product (1 * c) (limit r c) (sign k *ℚ rows k 0) (det n (without k rows))
        (within_product 1 c (sign k) (rows k 0) (within_sign k) (are.sized k 0 m (omega arith) w))
        (before k r (omega arith))))
        (λ k m w. ap (λ t. sign k *ℚ t *ℚ det n (without k rows)) (none k m w)
        ∙ solve (sign k ∷ det n (without k rows) ∷ []) (var 0 ⊗ con (pos 0) ⊗ var 1) (con (pos 0)) refl))
