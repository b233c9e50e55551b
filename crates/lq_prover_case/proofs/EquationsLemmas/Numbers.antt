-- Numbers, put into a list one after the other.
use Rattle.std.proofs.Common.{◌≡◌, ℕ, zero, suc, ◌+◌, ◌<◌, ◌⊎◌, inl, inr, List, [], ◌∷◌, ◌++◌, Some, length, slice_get, refl, sym, ap, ◌∙◌, arith}
use Rattle.lq_logic_rows.specs.Row.{Valuation}
use Rattle.lq_logic_rows.specs.Steps.{valuation_of, value_or_zero}
use Rattle.lq_base_numbers.specs.Fractions.Value.{value_of}
use Rattle.lq_base_numbers.specs.declared.fractions.frac.Frac.{Frac}
use Rattle.lq_prover_case.proofs.EquationsLemmas.Equated.{fewer}

last_get : {X : Type 0} (xs : List X) (x : X) → slice_get (xs ++ x ∷ []) (length xs) ≡ Some x
last_get {X} [] x = refl
last_get {X} (y ∷ xs) x = last_get xs x

front_get : {X : Type 0} (xs ys : List X) (k : ℕ) → k < length xs → slice_get (xs ++ ys) k ≡ slice_get xs k
front_get {X} [] ys k l = absurd (omega (arith, l))
front_get {X} (x ∷ xs) ys zero l = refl
front_get {X} (x ∷ xs) ys (suc k) l = front_get xs ys k (omega (arith, l))

pub numbers_push : (old new : List Frac) (x : Frac) (w : Valuation) (n : ℕ) → new ≡ old ++ x ∷ [] → length old ≡ n → value_of x ≡ w n → ((k : ℕ) → k < n → valuation_of old k ≡ w k)
    → (k : ℕ) → k < n + 1 → valuation_of new k ≡ w k
numbers_push old new x w n is count e h k l = ap (λ values. valuation_of values k) is ∙ by (fewer k n (omega (arith, l)))
  where
    by : (k < n) ⊎ (k ≡ n) → valuation_of (old ++ x ∷ []) k ≡ w k
    by (inl less) = ap value_or_zero (front_get old (x ∷ []) k (omega (arith, less, count))) ∙ h k less
    by (inr last) = ap (λ z. value_or_zero (slice_get (old ++ x ∷ []) z)) (last ∙ sym count) ∙ ap value_or_zero (last_get old x) ∙ e ∙ ap w (sym last)

pub count_push : (old new : List Frac) (x : Frac) (n : ℕ) → new ≡ old ++ x ∷ [] → length old ≡ n → length new ≡ n + 1
count_push old new x n is count = ap length is ∙ one old n count
  where
    one : (xs : List Frac) (m : ℕ) → length xs ≡ m → length (xs ++ x ∷ []) ≡ m + 1
    one [] m e = omega (arith, e)
    one (y ∷ xs) m e = let k = one xs (length xs) refl in omega (arith, e, k)
