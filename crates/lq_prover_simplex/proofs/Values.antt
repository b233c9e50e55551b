-- Lists of values, one for each variable.
use Rattle.std.proofs.Common.{◌≡◌, ℕ, zero, suc, ◌+◌, ◌<◌, ◌⊎◌, inl, inr, arith, refl, sym, ap, ◌∙◌, List, [], ◌∷◌, ◌++◌, Some, length, get_or, slice_get}
use Rattle.std.proofs.lemmas.Option.{slice_get-get_or}
use Rattle.std.proofs.lemmas.Bool.{cases_lt}
use Rattle.std.proofs.lemmas.List.{get_or_default}
use Rattle.lq_base_numbers.specs.Rationals.Rational.{ℚ}
use Rattle.lq_base_numbers.specs.declared.fractions.frac.Frac.{Frac}
use Rattle.lq_base_numbers.specs.Fractions.Value.{value_of}
use Rattle.lq_logic_rows.specs.Steps.{valuation_of, value_or_zero}

pub get_push_old : {A : Type 0} (xs : List A) (y : A) (k : ℕ) → k < length xs → slice_get (xs ++ y ∷ []) k ≡ slice_get xs k
get_push_old [] y k h = absurd (omega arith)
get_push_old (x ∷ xs) y zero h = refl
get_push_old (x ∷ xs) y (suc k) h = get_push_old xs y k (omega arith)

pub get_push_here : {A : Type 0} (xs : List A) (y : A) → slice_get (xs ++ y ∷ []) (length xs) ≡ Some y
get_push_here [] y = refl
get_push_here (x ∷ xs) y = get_push_here xs y

pub last_or_before : (k n : ℕ) → k < n + 1 → (k < n) ⊎ (k ≡ n)
last_or_before k n h = elim (cases_lt k n) [ inl l ↦ inl l | inr m ↦ inr (omega arith) ]

pub push_valuation : (xs : List Frac) (f : Frac) (P : ℕ → ℚ) (n : ℕ) → length xs ≡ n → ((k : ℕ) → k < n → valuation_of xs k ≡ P k) → value_of f ≡ P n
    → (k : ℕ) → k < n + 1 → valuation_of (xs ++ f ∷ []) k ≡ P k
push_valuation xs f P n e h last k l =
    elim (last_or_before k n l) [
      | inl before ↦ ap value_or_zero (get_push_old xs f k (omega arith)) ∙ h k before
      | inr here ↦ ap (λ m. valuation_of (xs ++ f ∷ []) m) (here ∙ sym e) ∙ ap value_or_zero (get_push_here xs f) ∙ last ∙ ap P (sym here)
    ]

pub value_there : (values : List Frac) (k : ℕ) (f : Frac) → k < length values → f ≡ get_or values k f → valuation_of values k ≡ value_of f
value_there values k f h e = ap value_or_zero (slice_get-get_or values k f h ∙ ap Some (sym e))

pub there : {A : Type 0} (xs : List A) (k : ℕ) (x : A) → k < length xs → x ≡ get_or xs k x → slice_get xs k ≡ Some x
there xs k x h e = slice_get-get_or xs k x h ∙ ap Some (sym e)

pub element : {A : Type 0} (xs : List A) (k : ℕ) (x d : A) → k < length xs → x ≡ get_or xs k x → get_or xs k d ≡ x
element xs k x d h e = get_or_default xs k d x h ∙ sym e
