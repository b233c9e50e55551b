-- Linear combinations: their sums, their entries, and what a change of values does to them.
use Rattle.std.proofs.Common.{◌≡◌, ◌≢◌, ℕ, zero, suc, pos, ◌+◌, ◌<◌, ◌≤◌, ◌⊎◌, inl, inr, arith, refl, sym, ap, ap₂, subst, ◌∙◌, List, [], ◌∷◌, ◌++◌, Some, length, take, get_or, slice_get, Bool, true, false, ◌==◌, if◌then◌else◌}
use Rattle.std.proofs.lemmas.List.{take_more}
use Rattle.lq_base_numbers.specs.Rationals.Rational.{ℚ, whole, ◌+ℚ◌, ◌*ℚ◌}
use Rattle.lq_base_numbers.specs.Rationals.Whole.{whole_once}
use Rattle.lq_base_numbers.specs.Rationals.Solver.{var, con, ◌⊕◌, ◌⊗◌, solve}
use Rattle.lq_base_numbers.specs.Fractions.Value.{value_of}
use Rattle.lq_logic_rows.specs.Row.{Valuation}
use Rattle.lq_prover_simplex.specs.declared.line.Entry.{Entry}
use Rattle.lq_prover_simplex.specs.Lines.{combine, unit, factor_of, AscendsFrom, IsLine, variable_at, VariablesBelow}

pub combine-append : (x : Valuation) (es fs : List Entry) → combine x (es ++ fs) ≡ combine x es +ℚ combine x fs
combine-append x [] fs = solve (combine x fs ∷ []) (var 0) (con (pos 0) ⊕ var 0) refl
combine-append x (e ∷ es) fs =
    ap (λ t. value_of e.factor *ℚ x e.variable +ℚ t) (combine-append x es fs)
    ∙ solve ((value_of e.factor *ℚ x e.variable) ∷ combine x es ∷ combine x fs ∷ []) (var 0 ⊕ (var 1 ⊕ var 2)) (var 0 ⊕ var 1 ⊕ var 2) refl

pub combine-push : (x : Valuation) (es : List Entry) (e : Entry) → combine x (es ++ e ∷ []) ≡ combine x es +ℚ value_of e.factor *ℚ x e.variable
combine-push x es e =
    combine-append x es (e ∷ [])
    ∙ solve (combine x es ∷ (value_of e.factor *ℚ x e.variable) ∷ []) (var 0 ⊕ (var 1 ⊕ con (pos 0))) (var 0 ⊕ var 1) refl

pub combine-more : (x : Valuation) (es : List Entry) (i : ℕ) (d : Entry) → i < length es
    → combine x (take (i + 1) es) ≡ combine x (take i es) +ℚ value_of (get_or es i d).factor *ℚ x (get_or es i d).variable
combine-more x es i d h = ap (combine x) (take_more es i d h) ∙ combine-push x (take i es) (get_or es i d)

-- ---- units
pub eqb_by : (m n : ℕ) {P : Type 0} → (m == n ≡ true → m ≡ n → P) → (m == n ≡ false → m ≢ n → P) → P
eqb_by m n {P} f g = by (m == n) refl
  where
    by : (b : Bool) → m == n ≡ b → P
    by true e = f e (let h : m ≡ n = grind arith in h)
    by false e = g e (λ h. absurd (let k : ⊥ = grind arith in k))

pub unit_here : (k : ℕ) → unit k k ≡ whole (pos 1)
unit_here k = eqb_by k k (λ e h. ap (λ b. if b then whole (pos 1) else whole (pos 0)) e) (λ e h. absurd (h refl))

pub unit_elsewhere : (k j : ℕ) → k ≢ j → unit k j ≡ whole (pos 0)
unit_elsewhere k j n = eqb_by k j (λ e h. absurd (n h)) (λ e h. ap (λ b. if b then whole (pos 1) else whole (pos 0)) e)

-- ---- entries
pub factor_past : (es : List Entry) (low k : ℕ) → AscendsFrom low es → k < low → factor_of es k ≡ whole (pos 0)
factor_past [] low k a h = refl
factor_past (e ∷ es) low k a h =
    ap₂ (λ s t. value_of e.factor *ℚ s +ℚ t) (unit_elsewhere k e.variable (λ q. absurd (let l = a.0 in omega arith))) (factor_past es (suc e.variable) k a.2 (let l = a.0 in omega arith))
    ∙ solve (value_of e.factor ∷ []) (var 0 ⊗ con (pos 0) ⊕ con (pos 0)) (con (pos 0)) refl

pub factor_absent : (es : List Entry) (k : ℕ) → ((j : ℕ) → j < length es → variable_at es j ≢ k) → factor_of es k ≡ whole (pos 0)
factor_absent [] k h = refl
factor_absent (e ∷ es) k h =
    ap₂ (λ s t. value_of e.factor *ℚ s +ℚ t) (unit_elsewhere k e.variable (λ q. h 0 (omega arith) (sym q))) (factor_absent es k (λ j l. h (suc j) (omega arith)))
    ∙ solve (value_of e.factor ∷ []) (var 0 ⊗ con (pos 0) ⊕ con (pos 0)) (con (pos 0)) refl

pub entry_above : (es : List Entry) (low i : ℕ) (e : Entry) → AscendsFrom low es → slice_get es i ≡ Some e → low ≤ e.variable
entry_above [] low i e a h = absurd (cc)
entry_above (f ∷ es) low zero e a h = let q : f ≡ e = cc in subst (λ (g : Entry). low ≤ g.variable) q a.0
entry_above (f ∷ es) low (suc i) e a h = let l = entry_above es (suc f.variable) i e a.2 h in let m = a.0 in omega arith

pub entry_is : (es : List Entry) (low i : ℕ) (e : Entry) → AscendsFrom low es → slice_get es i ≡ Some e → factor_of es e.variable ≡ value_of e.factor
entry_is [] low i e a h = absurd (cc)
entry_is (f ∷ es) low zero e a h =
    let q : f ≡ e = cc in
    subst (λ (g : Entry). factor_of (f ∷ es) g.variable ≡ value_of g.factor) q
    (ap₂ (λ s t. value_of f.factor *ℚ s +ℚ t) (unit_here f.variable) (factor_past es (suc f.variable) f.variable a.2 (omega arith))
    ∙ solve (value_of f.factor ∷ []) (var 0 ⊗ con (pos 1) ⊕ con (pos 0)) (var 0) refl)
entry_is (f ∷ es) low (suc i) e a h =
    let l = entry_above es (suc f.variable) i e a.2 h in
    ap₂ (λ s t. value_of f.factor *ℚ s +ℚ t) (unit_elsewhere e.variable f.variable (λ q. absurd (omega arith))) (entry_is es (suc f.variable) i e a.2 h)
    ∙ solve (value_of f.factor ∷ value_of e.factor ∷ []) (var 0 ⊗ con (pos 0) ⊕ var 1) (var 1) refl

pub entry_apart : (es : List Entry) (low i : ℕ) (e : Entry) → AscendsFrom low es → slice_get es i ≡ Some e → ¬ (value_of e.factor ≡ whole (pos 0))
entry_apart [] low i e a h = absurd (cc)
entry_apart (f ∷ es) low zero e a h = let q : f ≡ e = cc in subst (λ (g : Entry). ¬ (value_of g.factor ≡ whole (pos 0))) q a.1
entry_apart (f ∷ es) low (suc i) e a h = entry_apart es (suc f.variable) i e a.2 h

-- ---- lists that ascend
-- all the variables are below m
abbrev pub Under : ℕ → List Entry → Type 0
Under m es = VariablesBelow m es

pub under_push : (m n : ℕ) (es : List Entry) (e : Entry) → Under m es → m ≤ n → e.variable < n → Under n (es ++ e ∷ [])
under_push m n [] e u h k = (k, tt)
under_push m n (f ∷ es) e u h k = (let l = u.0 in omega arith, under_push m n es e u.1 h k)

pub under_more : (m n : ℕ) (es : List Entry) → Under m es → m ≤ n → Under n es
under_more m n [] u h = tt
under_more m n (f ∷ es) u h = (let l = u.0 in omega arith, under_more m n es u.1 h)

pub ascends_push : (low : ℕ) (es : List Entry) (e : Entry) → AscendsFrom low es → Under e.variable es → low ≤ e.variable → ¬ (value_of e.factor ≡ whole (pos 0)) → AscendsFrom low (es ++ e ∷ [])
ascends_push low [] e a u l n = (l, n, tt)
ascends_push low (f ∷ es) e a u l n = (a.0, a.1, ascends_push (suc f.variable) es e a.2 u.1 (let l = u.0 in omega arith) n)

-- the next variable is greater
pub ascends_next : (es : List Entry) (low i : ℕ) → AscendsFrom low es → suc i < length es → variable_at es i < variable_at es (suc i)
ascends_next [] low i a h = absurd (omega arith)
ascends_next (e ∷ []) low i a h = absurd (omega arith)
ascends_next (e ∷ f ∷ es) low zero a h = let l = a.2.0 in omega arith
ascends_next (e ∷ f ∷ es) low (suc i) a h = ascends_next (f ∷ es) (suc e.variable) i a.2 (omega arith)

pub variable_of : (es : List Entry) (i : ℕ) (d : Entry) → i < length es → variable_at es i ≡ (get_or es i d).variable
variable_of [] i d h = absurd (omega arith)
variable_of (e ∷ es) zero d h = refl
variable_of (e ∷ es) (suc i) d h = variable_of es i d (omega arith)

-- ---- values
pub combine-same : (x y : Valuation) (es : List Entry) → ((i : ℕ) (e : Entry) → slice_get es i ≡ Some e → x e.variable ≡ y e.variable) → combine x es ≡ combine y es
combine-same x y [] h = refl
combine-same x y (e ∷ es) h = ap₂ (λ s t. value_of e.factor *ℚ s +ℚ t) (h 0 e refl) (combine-same x y es (λ i f q. h (suc i) f q))

pub combine-plus : (x g : Valuation) (d : ℚ) (es : List Entry) → combine (λ j. x j +ℚ g j *ℚ d) es ≡ combine x es +ℚ combine g es *ℚ d
combine-plus x g d [] = solve (d ∷ []) (con (pos 0)) (con (pos 0) ⊕ con (pos 0) ⊗ var 0) refl
combine-plus x g d (e ∷ es) =
    ap (λ t. value_of e.factor *ℚ (x e.variable +ℚ g e.variable *ℚ d) +ℚ t) (combine-plus x g d es)
    ∙ solve (value_of e.factor ∷ x e.variable ∷ g e.variable ∷ d ∷ combine x es ∷ combine g es ∷ [])
    (var 0 ⊗ (var 1 ⊕ var 2 ⊗ var 3) ⊕ (var 4 ⊕ var 5 ⊗ var 3)) (var 0 ⊗ var 1 ⊕ var 4 ⊕ (var 0 ⊗ var 2 ⊕ var 5) ⊗ var 3) refl

pub found_factor : (es : List Entry) (i k : ℕ) (e : Entry) → IsLine es → slice_get es i ≡ Some e → e.variable ≡ k
    → (value_of e.factor ≡ factor_of es k) × ¬ (value_of e.factor ≡ whole (pos 0))
found_factor es i k e a h q = (sym (subst (λ n. factor_of es n ≡ value_of e.factor) q (entry_is es 0 i e a h)), entry_apart es 0 i e a h)

-- ---- a combination that is one variable
pub one_apart : whole (pos 0) ≡ whole (pos 1) → ⊥
one_apart e = let h : pos 0 ≡ pos 1 = whole_once (pos 0) (pos 1) e in absurd (let k : ⊥ = cc in k)

pub eq_or : (m n : ℕ) → (m ≡ n) ⊎ (m ≢ n)
eq_or m n = eqb_by m n (λ q r. inl r) (λ q r. inr r)

pub own_combination : (x : Valuation) (es : List Entry) (k : ℕ) → IsLine es → ((i : ℕ) → factor_of es i ≡ unit i k) → combine x es ≡ x k
own_combination x [] k a h = absurd (one_apart (h k ∙ unit_here k))
own_combination x (e ∷ es) k a h = by es a h (eq_or e.variable k)
  where
    by : (rest : List Entry) → IsLine (e ∷ rest) → ((i : ℕ) → factor_of (e ∷ rest) i ≡ unit i k) → (e.variable ≡ k) ⊎ (e.variable ≢ k) → combine x (e ∷ rest) ≡ x k
    by rest a h (inr n) = absurd (a.1 (sym (entry_is (e ∷ rest) 0 0 e a refl) ∙ h e.variable ∙ unit_elsewhere e.variable k n))
    by [] a h (inl q) =
        let one : value_of e.factor ≡ whole (pos 1) = sym (entry_is (e ∷ []) 0 0 e a refl) ∙ h e.variable ∙ ap (λ n. unit n k) q ∙ unit_here k in
        ap₂ (λ s t. s *ℚ x t +ℚ whole (pos 0)) one q ∙ solve (x k ∷ []) (con (pos 1) ⊗ var 0 ⊕ con (pos 0)) (var 0) refl
    by (f ∷ rest) a h (inl q) =
        absurd (a.2.1 (sym (entry_is (e ∷ f ∷ rest) 0 1 f a refl) ∙ h f.variable ∙ unit_elsewhere f.variable k (λ r. let l = a.2.0 in absurd (omega arith))))
