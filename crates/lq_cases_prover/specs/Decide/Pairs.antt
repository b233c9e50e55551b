-- Terms that apply one of `*`, `/` and `mod`.
use Rattle.std.specs.Prelude.{◌≡◌, ◌<◌, ℕ, Bool, true, false, List, Some, length, slice_get}
use Rattle.lq_logic_predicates.specs.Sum.{Sum, mul, div, rem}

-- whether two terms apply the same of these
abbrev pub apply_one : Sum → Sum → Bool
apply_one (mul a b) (mul c d) = true
apply_one (div a b) (div c d) = true
apply_one (rem a b) (rem c d) = true
apply_one _ _ = false

-- no term before the one at k, and before m, applies the same
abbrev pub IsAloneUpTo : List Sum → ℕ → ℕ → Type 0
IsAloneUpTo terms k m = (i : ℕ) (s t : Sum) → i < m → slice_get terms i ≡ Some s → slice_get terms k ≡ Some t → apply_one s t ≡ true → ⊥

-- no term before the one at k applies the same
abbrev pub IsAlone : List Sum → ℕ → Type 0
IsAlone terms k = IsAloneUpTo terms k k

-- no two terms apply the same
abbrev pub AreAlone : List Sum → Type 0
AreAlone terms = (k : ℕ) → k < length terms → IsAlone terms k
