-- Laws of sums over the numbers below n.
use Rattle.std.proofs.Common.{◌≡◌, ◌≢◌, ℕ, zero, suc, pos, ◌<◌, ◌≤◌, ◌⊎◌, inl, inr, arith, refl, sym, ap, ap₂, subst, ◌∙◌, [], ◌∷◌, Bool, true, false, ◌==◌, if◌then◌else◌}
use Rattle.std.proofs.lemmas.Bool.{cases_eq}
use Rattle.lq_base_numbers.specs.Rationals.Rational.{ℚ, whole, ◌+ℚ◌, ◌-ℚ◌, ◌*ℚ◌}
use Rattle.lq_base_numbers.specs.Rationals.RationalOrder.{◌≤ℚ◌, ≤ℚ_refl}
use Rattle.lq_base_numbers.specs.Rationals.OrderLaws.{≤ℚ_sum}
use Rattle.lq_base_numbers.specs.Rationals.Solver.{var, con, ◌⊕◌, ◌⊖◌, ◌⊗◌, solve}
use Rattle.lq_prover_pivots.specs.Pivots.Ranges.{sum_below, only_if, combine}

pub sum_below-same : (n : ℕ) (f g : ℕ → ℚ) → ((j : ℕ) → j < n → f j ≡ g j) → sum_below n f ≡ sum_below n g
sum_below-same zero f g h = refl
sum_below-same (suc n) f g h = ap₂ (λ s t. s +ℚ t) (sum_below-same n f g (λ j l. h j (omega arith))) (h n (omega arith))

pub sum_below-zero : (n : ℕ) → sum_below n (λ j. whole (pos 0)) ≡ whole (pos 0)
sum_below-zero zero = refl
sum_below-zero (suc n) = ap (λ t. t +ℚ whole (pos 0)) (sum_below-zero n) ∙ solve [] (con (pos 0) ⊕ con (pos 0)) (con (pos 0)) refl

pub sum_below-plus : (n : ℕ) (f g : ℕ → ℚ) → sum_below n (λ j. f j +ℚ g j) ≡ sum_below n f +ℚ sum_below n g
sum_below-plus zero f g = solve [] (con (pos 0)) (con (pos 0) ⊕ con (pos 0)) refl
sum_below-plus (suc n) f g =
    ap (λ t. t +ℚ (f n +ℚ g n)) (sum_below-plus n f g)
    ∙ solve (sum_below n f ∷ sum_below n g ∷ f n ∷ g n ∷ []) (var 0 ⊕ var 1 ⊕ (var 2 ⊕ var 3)) (var 0 ⊕ var 2 ⊕ (var 1 ⊕ var 3)) refl

pub sum_below-minus : (n : ℕ) (f g : ℕ → ℚ) → sum_below n (λ j. f j -ℚ g j) ≡ sum_below n f -ℚ sum_below n g
sum_below-minus zero f g = solve [] (con (pos 0)) (con (pos 0) ⊖ con (pos 0)) refl
sum_below-minus (suc n) f g =
    ap (λ t. t +ℚ (f n -ℚ g n)) (sum_below-minus n f g)
    ∙ solve (sum_below n f ∷ sum_below n g ∷ f n ∷ g n ∷ []) (var 0 ⊖ var 1 ⊕ (var 2 ⊖ var 3)) (var 0 ⊕ var 2 ⊖ (var 1 ⊕ var 3)) refl

pub sum_below-scale : (n : ℕ) (c : ℚ) (f : ℕ → ℚ) → sum_below n (λ j. c *ℚ f j) ≡ c *ℚ sum_below n f
sum_below-scale zero c f = solve (c ∷ []) (con (pos 0)) (var 0 ⊗ con (pos 0)) refl
sum_below-scale (suc n) c f =
    ap (λ t. t +ℚ c *ℚ f n) (sum_below-scale n c f)
    ∙ solve (sum_below n f ∷ c ∷ f n ∷ []) (var 1 ⊗ var 0 ⊕ var 1 ⊗ var 2) (var 1 ⊗ (var 0 ⊕ var 2)) refl

pub sum_below-only : (n : ℕ) (b : Bool) (f : ℕ → ℚ) → sum_below n (λ j. only_if b (f j)) ≡ only_if b (sum_below n f)
sum_below-only n true f = refl
sum_below-only n false f = sum_below-zero n

-- by rows or by columns
pub sum_below-exchange : (n m : ℕ) (f : ℕ → ℕ → ℚ) → sum_below n (λ i. sum_below m (f i)) ≡ sum_below m (λ j. sum_below n (λ i. f i j))
sum_below-exchange zero m f = sym (sum_below-zero m)
sum_below-exchange (suc n) m f =
    ap (λ t. t +ℚ sum_below m (f n)) (sum_below-exchange n m f) ∙ sym (sum_below-plus m (λ j. sum_below n (λ i. f i j)) (f n))

pub sum_below-at_most : (n : ℕ) (f g : ℕ → ℚ) → ((j : ℕ) → j < n → f j ≤ℚ g j) → sum_below n f ≤ℚ sum_below n g
sum_below-at_most zero f g h = ≤ℚ_refl (whole (pos 0))
sum_below-at_most (suc n) f g h = ≤ℚ_sum (sum_below n f) (sum_below n g) (f n) (g n) (sum_below-at_most n f g (λ j l. h j (omega arith))) (h n (omega arith))

-- ---- units
-- 1 at one number, 0 elsewhere
abbrev pub unit : ℕ → ℕ → ℚ
unit k j = if k == j then whole (pos 1) else whole (pos 0)

eqb_by : (m n : ℕ) {P : Type 0} → (m == n ≡ true → m ≡ n → P) → (m == n ≡ false → m ≢ n → P) → P
eqb_by m n {P} f g = by (m == n) refl
  where
    by : (b : Bool) → m == n ≡ b → P
    by true e = f e (let h : m ≡ n = grind arith in h)
    by false e = g e (λ h. absurd (let k : ⊥ = grind arith in k))

pub unit_here : (k : ℕ) → unit k k ≡ whole (pos 1)
unit_here k = eqb_by k k (λ e h. ap (λ b. if b then whole (pos 1) else whole (pos 0)) e) (λ e h. absurd (h refl))

pub unit_elsewhere : (k j : ℕ) → k ≢ j → unit k j ≡ whole (pos 0)
unit_elsewhere k j n = eqb_by k j (λ e h. absurd (n h)) (λ e h. ap (λ b. if b then whole (pos 1) else whole (pos 0)) e)

only_zero : (b : Bool) (x y : ℚ) → x ≡ whole (pos 0) → only_if b (x *ℚ y) ≡ whole (pos 0)
only_zero true x y e = ap (λ t. t *ℚ y) e ∙ solve (y ∷ []) (con (pos 0) ⊗ var 0) (con (pos 0)) refl
only_zero false x y e = refl

unit_past : (n k : ℕ) (is_in : ℕ → Bool) (x : ℕ → ℚ) → n ≤ k → combine n is_in (unit k) x ≡ whole (pos 0)
unit_past n k is_in x h =
    sum_below-same n _ (λ j. whole (pos 0)) (λ j l. only_zero (is_in j) (unit k j) (x j) (unit_elsewhere k j (λ e. absurd (omega arith)))) ∙ sum_below-zero n

pub combine-unit : (n k : ℕ) (is_in : ℕ → Bool) (x : ℕ → ℚ) → k < n → is_in k ≡ true → combine n is_in (unit k) x ≡ x k
combine-unit zero k is_in x h e = absurd (omega arith)
combine-unit (suc n) k is_in x h e = by (λ l. combine-unit n k is_in x l e) (cases_eq k n)
  where
    by : (k < n → combine n is_in (unit k) x ≡ x k) → (k ≡ n) ⊎ (k ≡ n → ⊥) → combine (suc n) is_in (unit k) x ≡ x k
    by before (inl q) =
        ap₂ (λ s t. s +ℚ t) (unit_past n k is_in x (omega arith))
        (subst (λ m. only_if (is_in m) (unit k m *ℚ x m) ≡ x k) q
        (ap₂ (λ b t. only_if b (t *ℚ x k)) e (unit_here k) ∙ solve (x k ∷ []) (con (pos 1) ⊗ var 0) (var 0) refl))
        ∙ solve (x k ∷ []) (con (pos 0) ⊕ var 0) (var 0) refl
    by before (inr q) =
        ap₂ (λ s t. s +ℚ t) (before (omega arith)) (only_zero (is_in n) (unit k n) (x n) (unit_elsewhere k n q))
        ∙ solve (x k ∷ []) (var 0 ⊕ con (pos 0)) (var 0) refl

-- ---- combinations
pub combine-values : (n : ℕ) (is_in : ℕ → Bool) (a x y : ℕ → ℚ) → ((j : ℕ) → j < n → x j ≡ y j) → combine n is_in a x ≡ combine n is_in a y
combine-values n is_in a x y h = sum_below-same n _ _ (λ j l. ap (λ t. only_if (is_in j) (a j *ℚ t)) (h j l))

pub only-same : (b : Bool) (x y : ℚ) → (b ≡ true → x ≡ y) → only_if b x ≡ only_if b y
only-same true x y h = h refl
only-same false x y h = refl

pub combine-entries : (n : ℕ) (is_in : ℕ → Bool) (a b x : ℕ → ℚ) → ((j : ℕ) → j < n → is_in j ≡ true → a j ≡ b j) → combine n is_in a x ≡ combine n is_in b x
combine-entries n is_in a b x h = sum_below-same n _ _ (λ j l. only-same (is_in j) (a j *ℚ x j) (b j *ℚ x j) (λ e. ap (λ t. t *ℚ x j) (h j l e)))

only_plus_minus : (b : Bool) (p q r x : ℚ) → only_if b ((p +ℚ q -ℚ r) *ℚ x) ≡ (only_if b (p *ℚ x) +ℚ only_if b (q *ℚ x)) -ℚ only_if b (r *ℚ x)
only_plus_minus true p q r x = solve (p ∷ q ∷ r ∷ x ∷ []) ((var 0 ⊕ var 1 ⊖ var 2) ⊗ var 3) ((var 0 ⊗ var 3 ⊕ var 1 ⊗ var 3) ⊖ var 2 ⊗ var 3) refl
only_plus_minus false p q r x = solve [] (con (pos 0)) ((con (pos 0) ⊕ con (pos 0)) ⊖ con (pos 0)) refl

pub combine-plus_minus : (n : ℕ) (is_in : ℕ → Bool) (a b c x : ℕ → ℚ)
    → combine n is_in (λ j. a j +ℚ b j -ℚ c j) x ≡ (combine n is_in a x +ℚ combine n is_in b x) -ℚ combine n is_in c x
combine-plus_minus n is_in a b c x =
    sum_below-same n _ _ (λ j l. only_plus_minus (is_in j) (a j) (b j) (c j) (x j))
    ∙ sum_below-minus n (λ j. only_if (is_in j) (a j *ℚ x j) +ℚ only_if (is_in j) (b j *ℚ x j)) (λ j. only_if (is_in j) (c j *ℚ x j))
    ∙ ap (λ t. t -ℚ combine n is_in c x) (sum_below-plus n (λ j. only_if (is_in j) (a j *ℚ x j)) (λ j. only_if (is_in j) (b j *ℚ x j)))

only_inside : (b d : Bool) (p q x : ℚ) → only_if b (p *ℚ only_if d (q *ℚ x)) ≡ only_if d (x *ℚ only_if b (p *ℚ q))
only_inside true true p q x = solve (p ∷ q ∷ x ∷ []) (var 0 ⊗ (var 1 ⊗ var 2)) (var 2 ⊗ (var 0 ⊗ var 1)) refl
only_inside true false p q x = solve (p ∷ []) (var 0 ⊗ con (pos 0)) (con (pos 0)) refl
only_inside false true p q x = solve (x ∷ []) (con (pos 0)) (var 0 ⊗ con (pos 0)) refl
only_inside false false p q x = refl

only_turn : (b : Bool) (x y : ℚ) → only_if b (x *ℚ y) ≡ only_if b (y *ℚ x)
only_turn b x y = ap (only_if b) (solve (x ∷ y ∷ []) (var 0 ⊗ var 1) (var 1 ⊗ var 0) refl)

-- a combination of combinations is one
pub combine-twice : (n : ℕ) (f g : ℕ → Bool) (a : ℕ → ℚ) (b : ℕ → ℕ → ℚ) (x : ℕ → ℚ)
    → combine n f a (λ j. combine n g (b j) x) ≡ combine n g (λ i. combine n f a (λ j. b j i)) x
combine-twice n f g a b x =
    sum_below-same n _ (λ j. sum_below n (λ i. only_if (f j) (a j *ℚ only_if (g i) (b j i *ℚ x i))))
    (λ j l. ap (only_if (f j)) (sym (sum_below-scale n (a j) (λ i. only_if (g i) (b j i *ℚ x i)))) ∙ sym (sum_below-only n (f j) (λ i. a j *ℚ only_if (g i) (b j i *ℚ x i))))
    ∙ sum_below-exchange n n (λ j i. only_if (f j) (a j *ℚ only_if (g i) (b j i *ℚ x i)))
    ∙ sum_below-same n _ _
    (λ i l. sum_below-same n _ (λ j. only_if (g i) (x i *ℚ only_if (f j) (a j *ℚ b j i))) (λ j m. only_inside (f j) (g i) (a j) (b j i) (x i))
    ∙ sum_below-only n (g i) (λ j. x i *ℚ only_if (f j) (a j *ℚ b j i))
    ∙ ap (only_if (g i)) (sum_below-scale n (x i) (λ j. only_if (f j) (a j *ℚ b j i)))
    ∙ only_turn (g i) (x i) (combine n f a (λ j. b j i)))
