-- Numbers that go to different numbers are no more than those, and ways to choose.
use Rattle.std.proofs.Common.{◌≡◌, ◌≢◌, inl, inr, ℕ, zero, suc, ◌+◌, ◌<◌, ◌≤◌, ◌-◌, arith, refl, sym, ap, ap₂, subst, ◌∙◌}
use Rattle.std.proofs.lemmas.Bool.{cases_lt}
use Rattle.lq_prover_pivots.specs.Pivots.Laws.{choose}
use Rattle.lq_prover_pivots.specs.Cramer.Determinants.{past}
use Rattle.lq_prover_pivots.proofs.CramerLemmas.Places.{past_place, place, place_below}

-- ---- numbers below m that go to different numbers below n
into : (m n : ℕ) (f : ℕ → ℕ) → ((k : ℕ) → k < m → f k < n) → ((j k : ℕ) → j < m → k < m → f j ≡ f k → j ≡ k) → m ≤ n
into zero n f within once = omega arith
into (suc m) zero f within once = let h = within m (omega arith) in absurd (omega arith)
into (suc m) (suc n) f within once =
    let h =
    into m n (λ k. place (f m) (f k)) (λ k l. place_below (f m) (f k) n (apart k l) (within m (omega arith)) (within k (omega arith)))
    (λ j k l o e.
    once j k (omega arith) (omega arith) (sym (past_place (f m) (f j) (apart j l)) ∙ ap (past (f m)) e ∙ past_place (f m) (f k) (apart k o))) in
    omega arith
  where
    apart : (k : ℕ) → k < m → f m ≢ f k
    apart k l e = let q : m ≡ k = once m k (omega arith) (omega arith) e in absurd (omega arith)

-- where the one goes to the other
record IsPlaced (m n : ℕ) (R : ℕ → ℕ → Type 0) (k : ℕ) : Type 0 where
  place : ℕ
  inside : k < m → place < n
  is : k < m → R k place

pub no_more : (m n : ℕ) (R : ℕ → ℕ → Type 0) → ((k : ℕ) → k < m → (l : ℕ) × (l < n) × R k l)
    → ((j k l : ℕ) → j < m → k < m → R j l → R k l → j ≡ k) → m ≤ n
no_more m n R goes once =
    into m n (λ k. (placed k).place) (λ k l. (placed k).inside l)
    (λ j k l o e. once j k (placed k).place l o (subst (R j) e ((placed j).is l)) ((placed k).is o))
  where
    placed : (k : ℕ) → IsPlaced m n R k
    placed k = elim (cases_lt k m) [
      | inl l ↦ let h = goes k l in record { place = h.0; inside = λ _. h.1; is = λ _. h.2 }
      | inr o ↦ record { place = 0; inside = λ l. absurd (omega arith); is = λ l. absurd (omega arith) }
    ]

-- ---- ways to choose
one_more : (n k : ℕ) → choose n k ≤ choose (suc n) k
one_more n zero = omega arith
one_more n (suc k) = let h : choose (suc n) (suc k) ≡ choose n k + choose n (suc k) = refl in omega arith

more : (d n k : ℕ) → choose n k ≤ choose (d + n) k
more zero n k = subst (λ m. choose n k ≤ choose m k) (let e : n ≡ 0 + n = omega arith in e) (omega arith)
more (suc d) n k =
    let h = more d n k in
    let o = one_more (d + n) k in
    subst (λ m. choose n k ≤ choose m k) (let e : suc (d + n) ≡ suc d + n = omega arith in e) (omega arith)

both : (e n k : ℕ) → choose n k ≤ choose (e + n) (e + k)
both zero n k = subst (λ m. choose n k ≤ m) (let a : n ≡ 0 + n = omega arith in let b : k ≡ 0 + k = omega arith in ap₂ choose a b) (omega arith)
both (suc e) n k =
    let h = both e n k in
    let s : choose (suc (e + n)) (suc (e + k)) ≡ choose (e + n) (e + k) + choose (e + n) (suc (e + k)) = refl in
    let m : choose n k ≤ choose (suc (e + n)) (suc (e + k)) = omega arith in
    subst (λ c. choose n k ≤ c) (let a : suc (e + n) ≡ suc e + n = omega arith in let b : suc (e + k) ≡ suc e + k = omega arith in ap₂ choose a b) m

-- of more things, and as many more of them at least as more are chosen
pub choose_grows : (n k m l : ℕ) → k ≤ n → k ≤ l → l ≤ m → n - k ≤ m - l → choose n k ≤ choose m l
choose_grows n k m l h o p q =
    let first = both (l - k) n k in
    let second = more (m - l - (n - k)) (l - k + n) (l - k + k) in
    let c : m - l - (n - k) + (l - k + n) ≡ m = omega arith in
    let d : l - k + k ≡ l = omega arith in
    let e : choose (m - l - (n - k) + (l - k + n)) (l - k + k) ≡ choose m l = ap₂ choose c d in
    omega arith
