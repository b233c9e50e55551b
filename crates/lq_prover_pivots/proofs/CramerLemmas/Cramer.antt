-- Cramer's rule, and that the determinant of spanning rows is not 0.
use Rattle.std.proofs.Common.{◌≡◌, ◌≢◌, ℕ, zero, suc, pos, ◌<◌, ◌≤◌, ◌⊎◌, inl, inr, arith, refl, sym, ap, ap₂, subst, ◌∙◌, [], ◌∷◌}
use Rattle.std.proofs.lemmas.Bool.{cases_eq, cases_lt}
use Rattle.lq_base_numbers.specs.Rationals.Rational.{ℚ, whole, ◌+ℚ◌, ◌-ℚ◌, ◌*ℚ◌}
use Rattle.lq_base_numbers.specs.Rationals.Solver.{var, con, ◌⊕◌, ◌⊖◌, ◌⊗◌, solve}
use Rattle.lq_base_numbers.specs.Rationals.Whole.{whole_once}
use Rattle.lq_prover_pivots.specs.Pivots.Ranges.{sum_below}
use Rattle.lq_prover_pivots.proofs.PivotsLemmas.Ranges.{sum_below-same, sum_below-zero, unit, unit_here, unit_elsewhere}
use Rattle.lq_prover_pivots.specs.Cramer.Determinants.{Rows, without, sign, det, put}
use Rattle.lq_prover_pivots.proofs.CramerLemmas.Places.{eqb_by, put_here, put_else}
use Rattle.lq_prover_pivots.proofs.CramerLemmas.Linear.{det_same, part, linear_sum, put_same}
use Rattle.lq_prover_pivots.proofs.CramerLemmas.Alternation.{alternates, exchanged, two, two_first, two_second, two_else}

-- a sum of zeros but for one
pub sum_only : (n i : ℕ) (f : ℕ → ℚ) → i < n → ((k : ℕ) → k < n → k ≢ i → f k ≡ whole (pos 0)) → sum_below n f ≡ f i
sum_only zero i f l h = absurd (omega arith)
sum_only (suc n) i f l h = by (λ m. sum_only n i f m (λ k o u. h k (omega arith) u)) (cases_eq i n)
  where
    by : (i < n → sum_below n f ≡ f i) → (i ≡ n) ⊎ (i ≡ n → ⊥) → sum_below (suc n) f ≡ f i
    by before (inl e) =
        ap₂ (λ s t. s +ℚ t) (sum_below-same n f (λ j. whole (pos 0)) (λ j m. h j (omega arith) (λ r. absurd (omega arith))) ∙ sum_below-zero n) (ap f (sym e))
        ∙ solve (f i ∷ []) (con (pos 0) ⊕ var 0) (var 0) refl
    by before (inr u) =
        ap₂ (λ s t. s +ℚ t) (before (omega arith)) (h n (omega arith) (λ r. u (sym r)))
        ∙ solve (f i ∷ []) (var 0 ⊕ con (pos 0)) (var 0) refl

times_zero : (x y : ℚ) → y ≡ whole (pos 0) → x *ℚ y ≡ whole (pos 0)
times_zero x y e = ap (λ t. x *ℚ t) e ∙ solve (x ∷ []) (var 0 ⊗ con (pos 0)) (con (pos 0)) refl

-- the row itself put in its place
pub put_self : (n i : ℕ) (rows : Rows) (row : ℕ → ℚ) → ((b : ℕ) → b < n → row b ≡ rows i b) → det n (put rows i row) ≡ det n rows
put_self n i rows row h =
    det_same n (put rows i row) rows
    (λ a b l m. eqb_by a i
    (λ q e. subst (λ t. put rows i row t b ≡ rows t b) (sym e) (put_here rows i row b ∙ h b m))
    (λ q e. put_else rows i row a b e))

-- the coefficient of row i in a combination, times the determinant, is the determinant with the combination in place of row i
pub cramer : (n i : ℕ) (rows : Rows) (row a : ℕ → ℚ) → i < n → ((b : ℕ) → b < n → row b ≡ sum_below n (λ j. a j *ℚ rows j b))
    → det n (put rows i row) ≡ a i *ℚ det n rows
cramer n i rows row a l h =
    put_same n i rows row (λ b. sum_below n (λ j. a j *ℚ rows j b)) h
    ∙ linear_sum n n i rows a rows l
    ∙ sum_only n i (λ j. a j *ℚ det n (put rows i (rows j))) l
    (λ k m u. times_zero (a k) (det n (put rows i (rows k)))
    (alternates n i k l m (λ e. u (sym e)) (put rows i (rows k)) (λ b. put_here rows i (rows k) b ∙ sym (put_else rows i (rows k) k b u))))
    ∙ ap (λ t. a i *ℚ t) (put_self n i rows (rows i) (λ b m. refl))

-- ---- spanning rows
-- where the determinant is 0 with each of the rows in one place, it is 0 with any row in that place
abbrev pub Spanning : ℕ → Rows → Type 0
Spanning n rows = (x : Rows) (s : ℕ) → s < n → ((j : ℕ) → j < n → det n (put x s (rows j)) ≡ whole (pos 0)) → det n x ≡ whole (pos 0)

sum_zero : (n : ℕ) (f : ℕ → ℚ) → ((k : ℕ) → k < n → f k ≡ whole (pos 0)) → sum_below n f ≡ whole (pos 0)
sum_zero n f h = sum_below-same n f (λ j. whole (pos 0)) h ∙ sum_below-zero n

sum_units : (n b : ℕ) (x : ℕ → ℚ) → b < n → sum_below n (λ t. x t *ℚ unit t b) ≡ x b
sum_units n b x l =
    sum_only n b (λ t. x t *ℚ unit t b) l (λ k m u. times_zero (x k) (unit k b) (unit_elsewhere k b u))
    ∙ ap (λ t. x b *ℚ t) (unit_here b) ∙ solve (x b ∷ []) (var 0 ⊗ con (pos 1)) (var 0) refl

pub spanning_from : (n : ℕ) (rows entries : Rows) → ((t b : ℕ) → t < n → b < n → unit t b ≡ sum_below n (λ j. entries t j *ℚ rows j b)) → Spanning n rows
spanning_from n rows entries h x s l zeros =
    sym (put_self n s x (λ b. sum_below n (λ t. x s t *ℚ unit t b)) (λ b m. sum_units n b (x s) m))
    ∙ linear_sum n n s x (x s) unit l
    ∙ sum_zero n (λ t. x s t *ℚ det n (put x s (unit t)))
    (λ t m. times_zero (x s t) (det n (put x s (unit t)))
    (put_same n s x (unit t) (λ b. sum_below n (λ j. entries t j *ℚ rows j b)) (λ b o. h t b m o)
    ∙ linear_sum n n s x (entries t) rows l
    ∙ sum_zero n (λ j. entries t j *ℚ det n (put x s (rows j))) (λ j o. times_zero (entries t j) (det n (put x s (rows j))) (zeros j o))))

spanning_two : (n p q : ℕ) (rows : Rows) → p < n → q < n → p ≢ q → Spanning n rows → Spanning n (two rows p q (rows q) (rows p))
spanning_two n p q rows l m d span x s o zeros =
    span x s o (λ k i. eqb_by k p
    (λ r e. put_same n s x (rows k) (two rows p q (rows q) (rows p) q) (λ b w. ap (λ t. rows t b) e ∙ sym (two_second rows p q (rows q) (rows p) b)) ∙ zeros q m)
    (λ r e. eqb_by k q
    (λ v f. put_same n s x (rows k) (two rows p q (rows q) (rows p) p) (λ b w. ap (λ t. rows t b) f ∙ sym (two_first rows p q (rows q) (rows p) b d)) ∙ zeros p l)
    (λ v f. put_same n s x (rows k) (two rows p q (rows q) (rows p) k) (λ b w. sym (two_else rows p q (rows q) (rows p) k b e f)) ∙ zeros k i)))

other_zero : (x y : ℚ) → x +ℚ y ≡ whole (pos 0) → x ≡ whole (pos 0) → y ≡ whole (pos 0)
other_zero x y h e = solve (x ∷ y ∷ []) (var 1) (var 0 ⊕ var 1 ⊖ var 0) refl ∙ ap₂ (λ s t. s -ℚ t) h e ∙ solve [] (con (pos 0) ⊖ con (pos 0)) (con (pos 0)) refl

-- where the determinant is 0, it is 0 whatever stands in the first s places
all_zero : (s n : ℕ) (rows x : Rows) → s ≤ n → Spanning n rows → det n rows ≡ whole (pos 0) → ((a b : ℕ) → s ≤ a → a < n → x a b ≡ rows a b) → det n x ≡ whole (pos 0)
all_zero zero n rows x l span is_zero same = det_same n x rows (λ a b m o. same a b (omega arith) m) ∙ is_zero
all_zero (suc s) n rows x l span is_zero same =
    span x s (omega arith)
    (λ j m. each (λ rows x span e f. all_zero s n rows x (omega arith) span e f) j m (cases_eq j s) (cases_lt j s))
  where
    each : ((rows x : Rows) → Spanning n rows → det n rows ≡ whole (pos 0) → ((a b : ℕ) → s ≤ a → a < n → x a b ≡ rows a b) → det n x ≡ whole (pos 0))
        → (j : ℕ) → j < n → (j ≡ s) ⊎ (j ≡ s → ⊥) → (j < s) ⊎ (s ≤ j) → det n (put x s (rows j)) ≡ whole (pos 0)
    each before j m (inl e) o =
        before rows (put x s (rows j)) span is_zero
        (λ a b u v. eqb_by a s
        (λ q f. subst (λ t. put x s (rows j) t b ≡ rows t b) (sym f) (put_here x s (rows j) b ∙ ap (λ t. rows t b) e))
        (λ q f. put_else x s (rows j) a b f ∙ same a b (omega arith) v))
    each before j m (inr e) (inr o) =
        alternates n s j (omega arith) m (λ f. e (sym f)) (put x s (rows j))
        (λ b. put_here x s (rows j) b ∙ sym (put_else x s (rows j) j b e ∙ same j b (omega arith) m))
    each before j m (inr e) (inl o) =
        let k : s < n = omega arith in
        before (two rows j s (rows s) (rows j)) (put x s (rows j)) (spanning_two n j s rows m k e span)
        (other_zero (det n rows) (det n (two rows j s (rows s) (rows j))) (exchanged n j s rows m k e (alternates n j s m k e)) is_zero)
        (λ a b u v. eqb_by a s
        (λ q f. subst (λ t. put x s (rows j) t b ≡ two rows j s (rows s) (rows j) t b) (sym f) (put_here x s (rows j) b ∙ sym (two_second rows j s (rows s) (rows j) b)))
        (λ q f. put_else x s (rows j) a b f ∙ same a b (omega arith) v ∙ sym (two_else rows j s (rows s) (rows j) a b (λ w. absurd (omega arith)) f)))

pub unit_next : (a b : ℕ) → unit (suc a) (suc b) ≡ unit a b
unit_next a b =
    eqb_by a b
    (λ q e. subst (λ t. unit (suc a) (suc t) ≡ unit a t) e (unit_here (suc a) ∙ sym (unit_here a)))
    (λ q e. unit_elsewhere (suc a) (suc b) (λ f. e (let g : a ≡ b = omega arith in g)) ∙ sym (unit_elsewhere a b e))

pub det_unit : (n : ℕ) → det n unit ≡ whole (pos 1)
det_unit zero = refl
det_unit (suc n) =
    sum_only (suc n) 0 (part n unit) (omega arith)
    (λ k m u. ap (λ t. sign k *ℚ t *ℚ det n (without k unit)) (unit_elsewhere k 0 u)
    ∙ solve (sign k ∷ det n (without k unit) ∷ []) (var 0 ⊗ con (pos 0) ⊗ var 1) (con (pos 0)) refl)
    ∙ ap₂ (λ s t. whole (pos 1) *ℚ s *ℚ t) (unit_here 0) (det_same n (without 0 unit) unit (λ a b l m. unit_next a b) ∙ det_unit n)
    ∙ solve [] (con (pos 1) ⊗ con (pos 1) ⊗ con (pos 1)) (con (pos 1)) refl

pub some_det : (n : ℕ) (rows : Rows) → Spanning n rows → ¬ (det n rows ≡ whole (pos 0))
some_det n rows span e =
    let f : pos 1 ≡ pos 0 = whole_once (pos 1) (pos 0) (sym (det_unit n) ∙ all_zero n n rows unit (omega arith) span e (λ a b l m. absurd (omega arith))) in
    absurd (cc)
