-- Two equal rows make the determinant 0, and two rows exchanged negate it.
use Rattle.std.proofs.Common.{◌≡◌, ◌≢◌, ℕ, zero, suc, pos, ◌+◌, ◌-◌, ◌<◌, ◌≤◌, ◌⊎◌, inl, inr, arith, refl, sym, ap, ap₂, subst, ◌∙◌, [], ◌∷◌}
use Rattle.std.proofs.lemmas.Bool.{cases_eq, cases_lt}
use Rattle.lq_base_numbers.specs.Rationals.Rational.{ℚ, whole, ◌+ℚ◌, ◌-ℚ◌, ◌*ℚ◌, neg_ℚ}
use Rattle.lq_base_numbers.specs.Rationals.Solver.{var, con, ◌⊕◌, ◌⊖◌, ◌⊗◌, solve}
use Rattle.lq_prover_pivots.specs.Pivots.Ranges.{sum_below}
use Rattle.lq_prover_pivots.proofs.PivotsLemmas.Ranges.{sum_below-same, sum_below-zero}
use Rattle.lq_prover_pivots.specs.Cramer.Determinants.{Rows, past, without, sign, det, put}
use Rattle.lq_prover_pivots.proofs.CramerLemmas.Places.{eqb_by, past_by, place, past_place, put_here, put_else}
use Rattle.lq_prover_pivots.proofs.CramerLemmas.Linear.{det_same, part, linear}

-- a sum of two neighbours that cancel and of zeros
sum_pair : (n p : ℕ) (f : ℕ → ℚ) → suc p < n → f p +ℚ f (suc p) ≡ whole (pos 0)
    → ((k : ℕ) → k < n → k ≢ p → k ≢ suc p → f k ≡ whole (pos 0)) → sum_below n f ≡ whole (pos 0)
sum_pair zero p f l e h = absurd (omega arith)
sum_pair (suc n) p f l e h = by (λ m. sum_pair n p f m e (λ k o u v. h k (omega arith) u v)) (cases_eq n (suc p))
  where
    by : (suc p < n → sum_below n f ≡ whole (pos 0)) → (n ≡ suc p) ⊎ (n ≡ suc p → ⊥) → sum_below (suc n) f ≡ whole (pos 0)
    by before (inr u) =
        ap₂ (λ s t. s +ℚ t) (before (omega arith)) (h n (omega arith) (λ q. absurd (omega arith)) u)
        ∙ solve [] (con (pos 0) ⊕ con (pos 0)) (con (pos 0)) refl
    by before (inl q) =
        subst (λ t. sum_below t f +ℚ f t ≡ whole (pos 0)) (sym q)
        (ap (λ t. t +ℚ f p +ℚ f (suc p))
        (sum_below-same p f (λ j. whole (pos 0)) (λ j m. h j (omega arith) (λ r. absurd (omega arith)) (λ r. absurd (omega arith))) ∙ sum_below-zero p)
        ∙ solve (f p ∷ f (suc p) ∷ []) (con (pos 0) ⊕ var 0 ⊕ var 1) (var 0 ⊕ var 1) refl ∙ e)

past_next : (k j p : ℕ) → past k j ≡ p → k ≢ suc p → past k (suc j) ≡ suc p
past_next k j p e u =
    past_by k j
    (λ l f. past_by k (suc j) (λ m g. omega arith) (λ m g. absurd (u (omega arith))))
    (λ l f. past_by k (suc j) (λ m g. omega arith) (λ m g. omega arith))

-- equal neighbours
pub adjacent : (n p : ℕ) (rows : Rows) → suc p < n → ((b : ℕ) → rows p b ≡ rows (suc p) b) → det n rows ≡ whole (pos 0)
adjacent zero p rows l h = absurd (omega arith)
adjacent (suc n) p rows l h =
    sum_pair (suc n) p (part n rows) l pair
    (others (λ k m u v.
    let j : ℕ = place k p in
    let e : past k j ≡ p = past_place k p u in
    let f : past k (suc j) ≡ suc p = past_next k j p e v in
    let o : suc j < n = past_by k (suc j) (λ s t. omega arith) (λ s t. omega arith) in
    adjacent n j (without k rows) o (λ b. ap (λ t. rows t (suc b)) e ∙ h (suc b) ∙ ap (λ t. rows t (suc b)) (sym f))))
  where
    same : (a b : ℕ) → rows (past (suc p) a) b ≡ rows (past p a) b
    same a b =
        past_by (suc p) a
        (λ m e. past_by p a
        (λ o f. ap (λ t. rows t b) (e ∙ sym f))
        (λ o f. let q : a ≡ p = omega arith in
        ap (λ t. rows t b) (e ∙ q) ∙ h b ∙ ap (λ t. rows t b) (sym (f ∙ ap suc q))))
        (λ m e. past_by p a (λ o f. absurd (omega arith)) (λ o f. ap (λ t. rows t b) (e ∙ sym f)))

    pair : part n rows p +ℚ part n rows (suc p) ≡ whole (pos 0)
    pair =
        ap₂ (λ s t. part n rows p +ℚ neg_ℚ (sign p) *ℚ s *ℚ t) (sym (h 0))
        (det_same n (without (suc p) rows) (without p rows) (λ a b m o. same a (suc b)))
        ∙ solve (sign p ∷ rows p 0 ∷ det n (without p rows) ∷ [])
        (var 0 ⊗ var 1 ⊗ var 2 ⊕ (con (pos 0) ⊖ var 0) ⊗ var 1 ⊗ var 2) (con (pos 0)) refl

    others : ((k : ℕ) → k < suc n → k ≢ p → k ≢ suc p → det n (without k rows) ≡ whole (pos 0)) → (k : ℕ) → k < suc n → k ≢ p → k ≢ suc p → part n rows k ≡ whole (pos 0)
    others before k m u v =
        ap (λ t. sign k *ℚ rows k 0 *ℚ t) (before k m u v)
        ∙ solve (sign k ∷ rows k 0 ∷ []) (var 0 ⊗ var 1 ⊗ con (pos 0)) (con (pos 0)) refl

-- ---- exchange
abbrev pub Alternates : ℕ → ℕ → ℕ → Type 0
Alternates n p q = (rows : Rows) → ((b : ℕ) → rows p b ≡ rows q b) → det n rows ≡ whole (pos 0)

abbrev pub two : Rows → ℕ → ℕ → (ℕ → ℚ) → (ℕ → ℚ) → Rows
two rows p q u v = put (put rows p u) q v

pub two_first : (rows : Rows) (p q : ℕ) (u v : ℕ → ℚ) (b : ℕ) → p ≢ q → two rows p q u v p b ≡ u b
two_first rows p q u v b n = put_else (put rows p u) q v p b n ∙ put_here rows p u b

pub two_second : (rows : Rows) (p q : ℕ) (u v : ℕ → ℚ) (b : ℕ) → two rows p q u v q b ≡ v b
two_second rows p q u v b = put_here (put rows p u) q v b

pub two_else : (rows : Rows) (p q : ℕ) (u v : ℕ → ℚ) (a b : ℕ) → a ≢ p → a ≢ q → two rows p q u v a b ≡ rows a b
two_else rows p q u v a b m n = put_else (put rows p u) q v a b n ∙ put_else rows p u a b m

two_by : (n p q : ℕ) (x y : Rows) → p ≢ q → ((b : ℕ) → x p b ≡ y p b) → ((b : ℕ) → x q b ≡ y q b) → ((a b : ℕ) → a ≢ p → a ≢ q → x a b ≡ y a b) → det n x ≡ det n y
two_by n p q x y u f g h =
    det_same n x y
    (λ a b l m. eqb_by a p
    (λ s e. subst (λ t. x t b ≡ y t b) (sym e) (f b))
    (λ s e. eqb_by a q (λ r i. subst (λ t. x t b ≡ y t b) (sym i) (g b)) (λ r i. h a b e i)))

two_linear_first : (n p q : ℕ) (rows : Rows) (u v w : ℕ → ℚ) → p < n → p ≢ q
    → det n (two rows p q (λ b. u b +ℚ v b) w) ≡ det n (two rows p q u w) +ℚ det n (two rows p q v w)
two_linear_first n p q rows u v w l d =
    let s : ℕ → ℚ = λ b. u b +ℚ v b in
    let z : Rows = two rows p q s w in
    linear n p (whole (pos 1)) (whole (pos 1)) (two rows p q u w) (two rows p q v w) z l
    (else u) (else v)
    (λ b. two_first rows p q s w b d
    ∙ solve (u b ∷ v b ∷ []) (var 0 ⊕ var 1) (con (pos 1) ⊗ var 0 ⊕ con (pos 1) ⊗ var 1) refl
    ∙ ap₂ (λ x y. whole (pos 1) *ℚ x +ℚ whole (pos 1) *ℚ y) (sym (two_first rows p q u w b d)) (sym (two_first rows p q v w b d)))
    ∙ solve (det n (two rows p q u w) ∷ det n (two rows p q v w) ∷ []) (con (pos 1) ⊗ var 0 ⊕ con (pos 1) ⊗ var 1) (var 0 ⊕ var 1) refl
  where
    else : (x : ℕ → ℚ) (a b : ℕ) → a ≢ p → two rows p q x w a b ≡ two rows p q (λ b. u b +ℚ v b) w a b
    else x a b e =
        eqb_by a q
        (λ s i. subst (λ t. two rows p q x w t b ≡ two rows p q (λ b. u b +ℚ v b) w t b) (sym i)
        (two_second rows p q x w b ∙ sym (two_second rows p q (λ b. u b +ℚ v b) w b)))
        (λ s i. two_else rows p q x w a b e i ∙ sym (two_else rows p q (λ b. u b +ℚ v b) w a b e i))

two_linear_second : (n p q : ℕ) (rows : Rows) (u v w : ℕ → ℚ) → q < n
    → det n (two rows p q w (λ b. u b +ℚ v b)) ≡ det n (two rows p q w u) +ℚ det n (two rows p q w v)
two_linear_second n p q rows u v w l =
    let s : ℕ → ℚ = λ b. u b +ℚ v b in
    let base : Rows = put rows p w in
    linear n q (whole (pos 1)) (whole (pos 1)) (put base q u) (put base q v) (put base q s) l
    (λ a b e. put_else base q u a b e ∙ sym (put_else base q s a b e))
    (λ a b e. put_else base q v a b e ∙ sym (put_else base q s a b e))
    (λ b. put_here base q s b
    ∙ solve (u b ∷ v b ∷ []) (var 0 ⊕ var 1) (con (pos 1) ⊗ var 0 ⊕ con (pos 1) ⊗ var 1) refl
    ∙ ap₂ (λ x y. whole (pos 1) *ℚ x +ℚ whole (pos 1) *ℚ y) (sym (put_here base q u b)) (sym (put_here base q v b)))
    ∙ solve (det n (put base q u) ∷ det n (put base q v) ∷ []) (con (pos 1) ⊗ var 0 ⊕ con (pos 1) ⊗ var 1) (var 0 ⊕ var 1) refl

-- the determinants of rows and of the same rows with two exchanged sum to 0
pub exchanged : (n p q : ℕ) (rows : Rows) → p < n → q < n → p ≢ q → Alternates n p q
    → det n rows +ℚ det n (two rows p q (rows q) (rows p)) ≡ whole (pos 0)
exchanged n p q rows l m d alt =
    let u : ℕ → ℚ = rows p in
    let v : ℕ → ℚ = rows q in
    let s : ℕ → ℚ = λ b. u b +ℚ v b in
    let same : (w : ℕ → ℚ) → det n (two rows p q w w) ≡ whole (pos 0) =
    λ w. alt (two rows p q w w) (λ b. two_first rows p q w w b d ∙ sym (two_second rows p q w w b)) in
    let is_rows : det n (two rows p q u v) ≡ det n rows =
    two_by n p q (two rows p q u v) rows d (λ b. two_first rows p q u v b d) (λ b. two_second rows p q u v b) (λ a b e f. two_else rows p q u v a b e f) in
    let all : det n (two rows p q s s) ≡ (det n (two rows p q u u) +ℚ det n (two rows p q u v)) +ℚ (det n (two rows p q v u) +ℚ det n (two rows p q v v)) =
    two_linear_first n p q rows u v s l d
    ∙ ap₂ (λ x y. x +ℚ y) (two_linear_second n p q rows u v u m) (two_linear_second n p q rows u v v m) in
    solve (det n rows ∷ det n (two rows p q v u) ∷ []) (var 0 ⊕ var 1) (con (pos 0) ⊕ var 0 ⊕ (var 1 ⊕ con (pos 0))) refl
    ∙ ap₂ (λ x y. x +ℚ y) (ap₂ (λ x y. x +ℚ y) (sym (same u)) (sym is_rows)) (ap (λ x. det n (two rows p q v u) +ℚ x) (sym (same v)))
    ∙ sym all ∙ same s

-- ---- any two equal rows
zero_from : (x y : ℚ) → x +ℚ y ≡ whole (pos 0) → y ≡ whole (pos 0) → x ≡ whole (pos 0)
zero_from x y h e = solve (x ∷ y ∷ []) (var 0) (var 0 ⊕ var 1 ⊖ var 1) refl ∙ ap₂ (λ s t. s -ℚ t) h e ∙ solve [] (con (pos 0) ⊖ con (pos 0)) (con (pos 0)) refl

by_gap : (g n p : ℕ) → suc (p + g) < n → Alternates n p (suc (p + g))
by_gap zero n p l rows h =
    adjacent n p rows (omega arith) (λ b. h b ∙ ap (λ t. rows t b) (let e : suc (p + 0) ≡ suc p = omega arith in e))
by_gap (suc g) n p l rows h =
    let r : ℕ = suc (p + g) in
    let q : ℕ = suc (p + suc g) in
    let is_q : suc r ≡ q = omega arith in
    let near : Alternates n r q = λ rows h. adjacent n r rows (omega arith) (λ b. h b ∙ ap (λ t. rows t b) (sym is_q)) in
    let d : r ≢ q = λ e. absurd (omega arith) in
    zero_from (det n rows) (det n (two rows r q (rows q) (rows r)))
    (exchanged n r q rows (omega arith) l d near)
    (by_gap g n p (omega arith) (two rows r q (rows q) (rows r))
    (λ b. two_else rows r q (rows q) (rows r) p b (λ e. absurd (omega arith)) (λ e. absurd (omega arith))
    ∙ h b ∙ sym (two_first rows r q (rows q) (rows r) b d)))

pub alternates : (n p q : ℕ) → p < n → q < n → p ≢ q → Alternates n p q
alternates n p q l m d rows h = by (cases_lt p q)
  where
    up : (p q : ℕ) → p < q → q < n → Alternates n p q
    up p q l m = let g : ℕ = q - suc p in let e : suc (p + g) ≡ q = omega arith in subst (λ t. Alternates n p t) e (by_gap g n p (omega arith))

    by : (p < q) ⊎ (q ≤ p) → det n rows ≡ whole (pos 0)
    by (inl o) = up p q o m rows h
    by (inr o) = up q p (let k : q < p = omega arith in k) l rows (λ b. sym (h b))
