-- The values of one configuration meet the combinations of any other.
use Rattle.std.proofs.Common.{◌≡◌, ℕ, ◌<◌, ◌⊎◌, inl, inr, refl, sym, ap, ap₂, ◌∙◌, [], ◌∷◌, Bool, true, false, if◌then◌else◌, List}
use Rattle.lq_base_numbers.specs.Rationals.Rational.{ℚ, ◌+ℚ◌, ◌-ℚ◌}
use Rattle.lq_base_numbers.specs.Rationals.Solver.{var, ◌⊕◌, ◌⊖◌, solve}
use Rattle.lq_prover_pivots.specs.Pivots.Ranges.{combine}
use Rattle.lq_logic_rows.specs.Row.{Row}
use Rattle.lq_prover_pivots.specs.Pivots.Rows.{Variables, size, at}
use Rattle.lq_prover_pivots.specs.Pivots.Configurations.{Configuration, Free, Basic, IsCombination, IsConfiguration}
use Rattle.lq_prover_pivots.proofs.PivotsLemmas.Ranges.{unit, combine-unit, combine-values, combine-entries, combine-plus_minus, combine-twice}

pub free_or_basic : (c : Configuration) (k : ℕ) → (c.is_free k ≡ true) ⊎ (c.is_free k ≡ false)
free_or_basic c k = by (c.is_free k) refl
  where
    by : (b : Bool) → c.is_free k ≡ b → (c.is_free k ≡ true) ⊎ (c.is_free k ≡ false)
    by true e = inl e
    by false e = inr e

-- the entries of any variable: a free one is its own combination
abbrev row_of : Configuration → ℕ → ℕ → ℚ
row_of c k i = if c.is_free k then unit k i else c.entry k i

row_free : (c : Configuration) (k i : ℕ) → c.is_free k ≡ true → row_of c k i ≡ unit k i
row_free c k i e = ap (λ b. if b then unit k i else c.entry k i) e

row_basic : (c : Configuration) (k i : ℕ) → c.is_free k ≡ false → row_of c k i ≡ c.entry k i
row_basic c k i e = ap (λ b. if b then unit k i else c.entry k i) e

row_meets : (vs : Variables) (c : Configuration) (k : ℕ) (x : ℕ → ℚ) → k < size vs
    → (Basic vs c k → x k ≡ combine (size vs) c.is_free (c.entry k) x) → x k ≡ combine (size vs) c.is_free (row_of c k) x
row_meets vs c k x l h =
    elim (free_or_basic c k) [
      | inl f ↦ sym (combine-entries (size vs) c.is_free (row_of c k) (unit k) x (λ j m e. row_free c k j f) ∙ combine-unit (size vs) k c.is_free x l f)
      | inr b ↦ h (l, b) ∙ sym (combine-entries (size vs) c.is_free (row_of c k) (c.entry k) x (λ j m e. row_basic c k j b))
    ]

-- the free ones are independent, as some basis member is a combination of them in one way only
row_once : (vs : Variables) (listed : List Row) (c : Configuration) (g k : ℕ) (a : ℕ → ℚ) (i : ℕ) → IsConfiguration vs listed c → Basic vs c g → k < size vs
    → IsCombination vs c k a → Free vs c i → a i ≡ row_of c k i
row_once vs listed c g k a i is basic l h free =
    elim (free_or_basic c k) [
      | inr b ↦ is.once k a (l, b) h i free ∙ sym (row_basic c k i b)
      | inl f ↦
          let more : IsCombination vs c g (λ j. c.entry g j +ℚ a j -ℚ unit k j) = record {
            always = λ v.
                solve (at vs v g ∷ at vs v k ∷ []) (var 0) (var 0 ⊕ var 1 ⊖ var 1) refl
                ∙ ap₂ (λ s t. s -ℚ t)
                (ap₂ (λ s t. s +ℚ t) ((is.combined g basic).always v) (h.always v))
                (sym (combine-unit (size vs) k c.is_free (at vs v) l f))
                ∙ sym (combine-plus_minus (size vs) c.is_free (c.entry g) a (unit k) (at vs v));
          } in
          solve (a i ∷ c.entry g i ∷ unit k i ∷ []) (var 0) ((var 1 ⊕ var 0 ⊖ var 2) ⊖ var 1 ⊕ var 2) refl
          ∙ ap (λ t. t -ℚ c.entry g i +ℚ unit k i) (is.once g (λ j. c.entry g j +ℚ a j -ℚ unit k j) basic more i free)
          ∙ solve (c.entry g i ∷ unit k i ∷ []) (var 0 ⊖ var 0 ⊕ var 1) (var 1) refl
          ∙ sym (row_free c k i f)
    ]

pub shared : (vs : Variables) (listed : List Row) (c d : Configuration) (g k : ℕ) → IsConfiguration vs listed c → IsConfiguration vs listed d → Basic vs c g → Basic vs d k
    → c.value k ≡ combine (size vs) d.is_free (d.entry k) c.value
shared vs listed c d g k is_c is_d basic here =
    let n = size vs in
    let through : ℕ → ℚ = λ i. combine n d.is_free (d.entry k) (λ j. row_of c j i) in
    let is_through : IsCombination vs c k through = record {
      always = λ v.
          (is_d.combined k here).always v
          ∙ combine-values n d.is_free (d.entry k) (at vs v) (λ j. combine n c.is_free (row_of c j) (at vs v))
          (λ j l. row_meets vs c j (at vs v) l (λ b. (is_c.combined j b).always v))
          ∙ combine-twice n d.is_free c.is_free (d.entry k) (row_of c) (at vs v);
    } in
    row_meets vs c k c.value here.0 (is_c.valued k)
    ∙ sym (combine-entries n c.is_free through (row_of c k) c.value (λ j l e. row_once vs listed c g k through j is_c basic here.0 is_through (l, e)))
    ∙ sym (combine-twice n d.is_free c.is_free (d.entry k) (row_of c) c.value)
    ∙ sym (combine-values n d.is_free (d.entry k) c.value (λ j. combine n c.is_free (row_of c j) c.value) (λ j l. row_meets vs c j c.value l (is_c.valued j)))
