-- The determinant is linear in each row.
use Rattle.std.proofs.Common.{◌≡◌, ◌≢◌, ℕ, zero, suc, pos, ◌<◌, arith, refl, sym, ap, ap₂, subst, ◌∙◌, [], ◌∷◌}
use Rattle.lq_base_numbers.specs.Rationals.Rational.{ℚ, whole, ◌+ℚ◌, ◌*ℚ◌}
use Rattle.lq_base_numbers.specs.Rationals.Solver.{var, con, ◌⊕◌, ◌⊗◌, solve}
use Rattle.lq_prover_pivots.specs.Pivots.Ranges.{sum_below}
use Rattle.lq_prover_pivots.proofs.PivotsLemmas.Ranges.{sum_below-same, sum_below-plus, sum_below-scale}
use Rattle.lq_prover_pivots.specs.Cramer.Determinants.{Rows, past, without, sign, det, put}
use Rattle.lq_prover_pivots.proofs.CramerLemmas.Places.{eqb_by, past_apart, past_below, past_once, place, past_place, place_below, put_here, put_else}

pub det_same : (n : ℕ) (x y : Rows) → ((a b : ℕ) → a < n → b < n → x a b ≡ y a b) → det n x ≡ det n y
det_same zero x y h = refl
det_same (suc n) x y h =
    sum_below-same (suc n) _ _
    (λ k l. ap₂ (λ s t. sign k *ℚ s *ℚ t) (h k 0 l (omega arith))
    (det_same n (without k x) (without k y) (λ a b m o. h (past k a) (suc b) (past_below k a n m) (omega arith))))

-- the part of the expansion for row k
abbrev pub part : ℕ → Rows → ℕ → ℚ
part n rows k = sign k *ℚ rows k 0 *ℚ det n (without k rows)

away : (k j i : ℕ) → past k j ≡ i → (a : ℕ) → a ≢ j → past k a ≢ i
away k j i e a u q = u (past_once k a j (q ∙ sym e))

pub linear : (n i : ℕ) (c d : ℚ) (x y z : Rows) → i < n → ((a b : ℕ) → a ≢ i → x a b ≡ z a b) → ((a b : ℕ) → a ≢ i → y a b ≡ z a b)
    → ((b : ℕ) → z i b ≡ c *ℚ x i b +ℚ d *ℚ y i b) → det n z ≡ c *ℚ det n x +ℚ d *ℚ det n y
linear zero i c d x y z l f g h = absurd (omega arith)
linear (suc n) i c d x y z l f g h =
    sum_below-same (suc n) (part n z) (λ k. c *ℚ part n x k +ℚ d *ℚ part n y k)
    (each (λ k m u.
    linear n (place k i) c d (without k x) (without k y) (without k z) (place_below k i n u m l)
    (λ a b v. f (past k a) (suc b) (away k (place k i) i (past_place k i u) a v))
    (λ a b v. g (past k a) (suc b) (away k (place k i) i (past_place k i u) a v))
    (λ b. subst (λ t. z t (suc b) ≡ c *ℚ x t (suc b) +ℚ d *ℚ y t (suc b)) (sym (past_place k i u)) (h (suc b)))))
    ∙ sum_below-plus (suc n) (λ k. c *ℚ part n x k) (λ k. d *ℚ part n y k)
    ∙ ap₂ (λ s t. s +ℚ t) (sum_below-scale (suc n) c (part n x)) (sum_below-scale (suc n) d (part n y))
  where
    here : part n z i ≡ c *ℚ part n x i +ℚ d *ℚ part n y i
    here =
        ap (λ t. sign i *ℚ t *ℚ det n (without i z)) (h 0)
        ∙ solve (sign i ∷ c ∷ d ∷ x i 0 ∷ y i 0 ∷ det n (without i z) ∷ [])
        (var 0 ⊗ (var 1 ⊗ var 3 ⊕ var 2 ⊗ var 4) ⊗ var 5)
        (var 1 ⊗ (var 0 ⊗ var 3 ⊗ var 5) ⊕ var 2 ⊗ (var 0 ⊗ var 4 ⊗ var 5)) refl
        ∙ ap₂ (λ s t. c *ℚ (sign i *ℚ x i 0 *ℚ s) +ℚ d *ℚ (sign i *ℚ y i 0 *ℚ t))
        (det_same n (without i z) (without i x) (λ a b m o. sym (f (past i a) (suc b) (past_apart i a))))
        (det_same n (without i z) (without i y) (λ a b m o. sym (g (past i a) (suc b) (past_apart i a))))

    elsewhere : (k : ℕ) → k ≢ i → det n (without k z) ≡ c *ℚ det n (without k x) +ℚ d *ℚ det n (without k y) → part n z k ≡ c *ℚ part n x k +ℚ d *ℚ part n y k
    elsewhere k u before =
        ap (λ t. sign k *ℚ z k 0 *ℚ t) before
        ∙ solve (sign k ∷ c ∷ d ∷ z k 0 ∷ det n (without k x) ∷ det n (without k y) ∷ [])
        (var 0 ⊗ var 3 ⊗ (var 1 ⊗ var 4 ⊕ var 2 ⊗ var 5))
        (var 1 ⊗ (var 0 ⊗ var 3 ⊗ var 4) ⊕ var 2 ⊗ (var 0 ⊗ var 3 ⊗ var 5)) refl
        ∙ ap₂ (λ s t. c *ℚ (sign k *ℚ s *ℚ det n (without k x)) +ℚ d *ℚ (sign k *ℚ t *ℚ det n (without k y)))
        (sym (f k 0 u)) (sym (g k 0 u))

    each : ((k : ℕ) → k < suc n → k ≢ i → det n (without k z) ≡ c *ℚ det n (without k x) +ℚ d *ℚ det n (without k y))
        → (k : ℕ) → k < suc n → part n z k ≡ c *ℚ part n x k +ℚ d *ℚ part n y k
    each before k m = eqb_by k i (λ q e. subst (λ t. part n z t ≡ c *ℚ part n x t +ℚ d *ℚ part n y t) (sym e) here) (λ q u. elsewhere k u (before k m u))

-- replaced by a sum of multiples
pub linear_put : (n i : ℕ) (rows : Rows) (c d : ℚ) (u v : ℕ → ℚ) → i < n
    → det n (put rows i (λ b. c *ℚ u b +ℚ d *ℚ v b)) ≡ c *ℚ det n (put rows i u) +ℚ d *ℚ det n (put rows i v)
linear_put n i rows c d u v l =
    let w : ℕ → ℚ = λ b. c *ℚ u b +ℚ d *ℚ v b in
    linear n i c d (put rows i u) (put rows i v) (put rows i w) l
    (λ a b e. put_else rows i u a b e ∙ sym (put_else rows i w a b e))
    (λ a b e. put_else rows i v a b e ∙ sym (put_else rows i w a b e))
    (λ b. put_here rows i w b ∙ ap₂ (λ s t. c *ℚ s +ℚ d *ℚ t) (sym (put_here rows i u b)) (sym (put_here rows i v b)))

pub put_same : (n i : ℕ) (rows : Rows) (u v : ℕ → ℚ) → ((b : ℕ) → b < n → u b ≡ v b) → det n (put rows i u) ≡ det n (put rows i v)
put_same n i rows u v h =
    det_same n (put rows i u) (put rows i v)
    (λ a b l m. eqb_by a i
    (λ q e. subst (λ t. put rows i u t b ≡ put rows i v t b) (sym e) (put_here rows i u b ∙ h b m ∙ sym (put_here rows i v b)))
    (λ q e. put_else rows i u a b e ∙ sym (put_else rows i v a b e)))

-- replaced by a combination of m rows
pub linear_sum : (m n i : ℕ) (rows : Rows) (c : ℕ → ℚ) (u : Rows) → i < n
    → det n (put rows i (λ b. sum_below m (λ j. c j *ℚ u j b))) ≡ sum_below m (λ j. c j *ℚ det n (put rows i (u j)))
linear_sum zero n i rows c u l =
    let z : ℕ → ℚ = λ b. whole (pos 0) in
    put_same n i rows z (λ b. whole (pos 0) *ℚ z b +ℚ whole (pos 0) *ℚ z b) (λ b m. solve [] (con (pos 0)) (con (pos 0) ⊗ con (pos 0) ⊕ con (pos 0) ⊗ con (pos 0)) refl)
    ∙ linear_put n i rows (whole (pos 0)) (whole (pos 0)) z z l
    ∙ solve (det n (put rows i z) ∷ []) (con (pos 0) ⊗ var 0 ⊕ con (pos 0) ⊗ var 0) (con (pos 0)) refl
linear_sum (suc m) n i rows c u l =
    let s : ℕ → ℚ = λ b. sum_below m (λ j. c j *ℚ u j b) in
    put_same n i rows (λ b. s b +ℚ c m *ℚ u m b) (λ b. whole (pos 1) *ℚ s b +ℚ c m *ℚ u m b)
    (λ b k. solve (s b ∷ c m ∷ u m b ∷ []) (var 0 ⊕ var 1 ⊗ var 2) (con (pos 1) ⊗ var 0 ⊕ var 1 ⊗ var 2) refl)
    ∙ linear_put n i rows (whole (pos 1)) (c m) s (u m) l
    ∙ ap (λ t. whole (pos 1) *ℚ t +ℚ c m *ℚ det n (put rows i (u m))) (linear_sum m n i rows c u l)
    ∙ solve (sum_below m (λ j. c j *ℚ det n (put rows i (u j))) ∷ (c m *ℚ det n (put rows i (u m))) ∷ []) (con (pos 1) ⊗ var 0 ⊕ var 1) (var 0 ⊕ var 1) refl
