-- How many numbers below n a test admits.
use Rattle.std.proofs.Common.{◌≡◌, ◌≢◌, ℕ, zero, suc, ◌+◌, ◌<◌, ◌⊎◌, inl, inr, arith, refl, sym, ap, subst, ◌∙◌, Bool, true, false, ◌==◌, if◌then◌else◌}
use Rattle.lq_prover_pivots.specs.Pivots.Ranges.{one_if, count_below}
use Rattle.lq_prover_simplex.proofs.Combinations.{eqb_by, eq_or}

-- so many numbers below n, each once, and all that the test admits
pub record Lists (n t : ℕ) (test : ℕ → Bool) (f : ℕ → ℕ) : Type 0 where
  pub below : (u : ℕ) → u < t → f u < n
  pub admits : (u : ℕ) → u < t → test (f u) ≡ true
  pub all : (j : ℕ) → j < n → test j ≡ true → (u : ℕ) × (u < t) × (f u ≡ j)
  pub once : (u v : ℕ) → u < t → v < t → f u ≡ f v → u ≡ v

-- what stands at the last place stands at this one
moved : ℕ → ℕ → (ℕ → ℕ) → ℕ → ℕ
moved u last f v = if v == u then f last else f v

moved_here : (u last : ℕ) (f : ℕ → ℕ) (v : ℕ) → v ≡ u → moved u last f v ≡ f last
unfolding moved
moved_here u last f v e = eqb_by v u (λ q r. ap (λ t. if t then f last else f v) q) (λ q n. absurd (n e))

moved_else : (u last : ℕ) (f : ℕ → ℕ) (v : ℕ) → v ≢ u → moved u last f v ≡ f v
unfolding moved
moved_else u last f v n = eqb_by v u (λ q r. absurd (n r)) (λ q r. ap (λ t. if t then f last else f v) q)

lists_less : (n t : ℕ) (test : ℕ → Bool) (f : ℕ → ℕ) → test n ≡ false → Lists (suc n) t test f → Lists n t test f
lists_less n t test f fails l = record {
  below = λ u h. elim (eq_or (f u) n) [
    | inl e ↦ absurd (let q : true ≡ false = sym (l.admits u h) ∙ ap test e ∙ fails in cc)
    | inr m ↦ let b = l.below u h in omega arith
  ];
  admits = l.admits;
  all = λ j h e. l.all j (omega arith) e;
  once = l.once;
}

lists_without : (n t : ℕ) (test : ℕ → Bool) (f : ℕ → ℕ) (u : ℕ) → u < suc t → f u ≡ n → Lists (suc n) (suc t) test f → Lists n t test (moved u t f)
lists_without n t test f u inside here l = record {
  below = λ v h. below v h (eq_or v u);
  admits = λ v h. admits v h (eq_or v u);
  all = λ j h e. found j h (l.all j (omega arith) e);
  once = λ v w h g e. once v w h g e (eq_or v u) (eq_or w u);
}
  where
    before : (v : ℕ) → v < suc t → v ≢ u → f v < n
    before v h m =
        elim (eq_or (f v) n) [
          | inl e ↦ absurd (m (l.once v u h inside (e ∙ sym here)))
          | inr k ↦ let b = l.below v h in omega arith
        ]

    below : (v : ℕ) → v < t → (v ≡ u) ⊎ (v ≢ u) → moved u t f v < n
    below v h (inl e) = subst (λ k. k < n) (sym (moved_here u t f v e)) (before t (omega arith) (λ q. absurd (omega arith)))
    below v h (inr m) = subst (λ k. k < n) (sym (moved_else u t f v m)) (before v (omega arith) m)

    admits : (v : ℕ) → v < t → (v ≡ u) ⊎ (v ≢ u) → test (moved u t f v) ≡ true
    admits v h (inl e) = ap test (moved_here u t f v e) ∙ l.admits t (omega arith)
    admits v h (inr m) = ap test (moved_else u t f v m) ∙ l.admits v (omega arith)

    found : (j : ℕ) → j < n → ((w : ℕ) × (w < suc t) × (f w ≡ j)) → (w : ℕ) × (w < t) × (moved u t f w ≡ j)
    found j h k =
        let within = k.1 in
        elim (eq_or k.0 u) [
          | inl q ↦ absurd (let r : j ≡ n = sym k.2 ∙ ap f q ∙ here in omega arith)
          | inr m ↦ elim (eq_or k.0 t) [
            | inl q ↦ (u, (let r : u ≢ t = (λ z. m (q ∙ sym z)) in omega arith), moved_here u t f u refl ∙ ap f (sym q) ∙ k.2)
            | inr r ↦ (k.0, omega arith, moved_else u t f k.0 m ∙ k.2)
          ]
        ]

    once : (v w : ℕ) → v < t → w < t → moved u t f v ≡ moved u t f w → (v ≡ u) ⊎ (v ≢ u) → (w ≡ u) ⊎ (w ≢ u) → v ≡ w
    once v w h g e (inl p) (inl q) = p ∙ sym q
    once v w h g e (inl p) (inr q) =
        absurd (let k : t ≡ w = l.once t w (omega arith) (omega arith) (sym (moved_here u t f v p) ∙ e ∙ moved_else u t f w q) in omega arith)
    once v w h g e (inr p) (inl q) =
        absurd (let k : v ≡ t = l.once v t (omega arith) (omega arith) (sym (moved_else u t f v p) ∙ e ∙ moved_here u t f w q) in omega arith)
    once v w h g e (inr p) (inr q) = l.once v w (omega arith) (omega arith) (sym (moved_else u t f v p) ∙ e ∙ moved_else u t f w q)

pub counted : (n t : ℕ) (test : ℕ → Bool) (f : ℕ → ℕ) → Lists n t test f → count_below n test ≡ t
counted zero zero test f l = refl
counted zero (suc t) test f l = absurd (let h = l.below 0 (omega arith) in omega arith)
counted (suc n) t test f l = by t f l (λ u g k. counted n u test g k) (test n) refl
  where
    by : (t : ℕ) (f : ℕ → ℕ) → Lists (suc n) t test f → ((u : ℕ) (g : ℕ → ℕ) → Lists n u test g → count_below n test ≡ u) → (b : Bool) → test n ≡ b
        → count_below n test + one_if (test n) ≡ t
    by t f l before false e = let k = before t f (lists_less n t test f e l) in ap (λ b. count_below n test + one_if b) e ∙ (omega arith)
    by zero f l before true e = absurd (let w = l.all n (omega arith) e in let h = w.1 in omega arith)
    by (suc t) f l before true e =
        let w = l.all n (omega arith) e in
        let k = before t (moved w.0 t f) (lists_without n t test f w.0 w.1 w.2 l) in
        ap (λ b. count_below n test + one_if b) e ∙ (omega arith)
