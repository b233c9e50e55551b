-- Places among the numbers other than one, and replaced rows.
use Rattle.std.proofs.Common.{◌≡◌, ◌≢◌, ℕ, zero, suc, ◌<◌, ◌≤◌, ◌⊎◌, inl, inr, arith, refl, ap, Bool, true, false, ◌==◌, if◌then◌else◌}
use Rattle.lq_base_numbers.specs.Rationals.Rational.{ℚ}
use Rattle.lq_prover_pivots.specs.Cramer.Determinants.{Rows, past, put}

pub eqb_by : (m n : ℕ) {P : Type 0} → (m == n ≡ true → m ≡ n → P) → (m == n ≡ false → m ≢ n → P) → P
eqb_by m n {P} f g = by (m == n) refl
  where
    by : (b : Bool) → m == n ≡ b → P
    by true e = f e (let h : m ≡ n = grind arith in h)
    by false e = g e (λ h. absurd (let k : ⊥ = grind arith in k))

-- below k the place itself, from k on the next
pub past_is : (k a : ℕ) → ((a < k) × (past k a ≡ a)) ⊎ ((k ≤ a) × (past k a ≡ suc a))
past_is zero a = inr (omega arith, refl)
past_is (suc k) zero = inl (omega arith, refl)
past_is (suc k) (suc a) = elim (past_is k a) [
  | inl h ↦ inl (let l = h.0 in omega arith, ap suc h.1)
  | inr h ↦ inr (let l = h.0 in omega arith, ap suc h.1)
]

pub past_by : (k a : ℕ) {P : Type 0} → (a < k → past k a ≡ a → P) → (k ≤ a → past k a ≡ suc a → P) → P
past_by k a {P} f g = elim (past_is k a) [ inl h ↦ f h.0 h.1 | inr h ↦ g h.0 h.1 ]

pub past_apart : (k a : ℕ) → past k a ≢ k
past_apart k a = past_by k a (λ l e h. absurd (omega arith)) (λ l e h. absurd (omega arith))

pub past_below : (k a n : ℕ) → a < n → past k a < suc n
past_below k a n m = past_by k a (λ l e. omega arith) (λ l e. omega arith)

pub past_once : (k a b : ℕ) → past k a ≡ past k b → a ≡ b
past_once k a b h =
    past_by k a
    (λ l e. past_by k b (λ m f. omega arith) (λ m f. omega arith))
    (λ l e. past_by k b (λ m f. omega arith) (λ m f. omega arith))

-- the place of a number
abbrev pub place : ℕ → ℕ → ℕ
place zero zero = zero
place zero (suc i) = i
place (suc k) zero = zero
place (suc k) (suc i) = suc (place k i)

place_is : (k i : ℕ) → k ≢ i → ((i < k) × (place k i ≡ i)) ⊎ ((k < i) × (suc (place k i) ≡ i))
place_is zero zero n = absurd (n refl)
place_is zero (suc i) n = inr (omega arith, refl)
place_is (suc k) zero n = inl (omega arith, refl)
place_is (suc k) (suc i) n = elim (place_is k i (λ e. n (ap suc e))) [
  | inl h ↦ inl (let l = h.0 in omega arith, ap suc h.1)
  | inr h ↦ inr (let l = h.0 in omega arith, ap suc h.1)
]

pub past_place : (k i : ℕ) → k ≢ i → past k (place k i) ≡ i
past_place k i n = elim (place_is k i n) [
  | inl h ↦ let l = h.0 in let e = h.1 in past_by k (place k i) (λ m f. omega arith) (λ m f. omega arith)
  | inr h ↦ let l = h.0 in let e = h.1 in past_by k (place k i) (λ m f. omega arith) (λ m f. omega arith)
]

pub place_below : (k i n : ℕ) → k ≢ i → k < suc n → i < suc n → place k i < n
place_below k i n d l m = elim (place_is k i d) [
  | inl h ↦ let p = h.0 in let e = h.1 in omega arith
  | inr h ↦ let p = h.0 in let e = h.1 in omega arith
]

-- ---- replaced rows
pub put_here : (rows : Rows) (i : ℕ) (row : ℕ → ℚ) (b : ℕ) → put rows i row i b ≡ row b
put_here rows i row b = eqb_by i i (λ e h. ap (λ t. if t then row b else rows i b) e) (λ e h. absurd (h refl))

pub put_else : (rows : Rows) (i : ℕ) (row : ℕ → ℚ) (a b : ℕ) → a ≢ i → put rows i row a b ≡ rows a b
put_else rows i row a b n = eqb_by a i (λ e h. absurd (n h)) (λ e h. ap (λ t. if t then row b else rows a b) e)
