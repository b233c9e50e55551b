-- The nearest earlier application of a function in a list of terms.
use Rattle.std.specs.Prelude.{◌≡◌, ℕ, Bool, true, false, ◌==◌, ◌+◌, ◌<◌, ◌≤◌, List, Option, Some, None, slice_get, get_or, if◌then◌else◌}
use Rattle.std.specs.Map.{lookup}
use Rattle.lq_logic_predicates.specs.Sum.{Sum}
use Rattle.lq_logic_points.specs.Function.{applied}
use Rattle.lq_logic_points.specs.declared.agreeing.Function.{Function}
use Rattle.lq_logic_points.specs.declared.agreeing.Function.TheVariants.{Product, Quotient, Remainder, Length, Measure}

-- no term from one place up to before another applies the function
abbrev pub NoneBetween : List Sum → ℕ → ℕ → Function → Type 0
NoneBetween terms low high f = (i : ℕ) (t : Sum) → low ≤ i → i < high → slice_get terms i ≡ Some t → applied t ≡ Some f → ⊥

-- the term at the place applies the function
pub record Applies (terms : List Sum) (k : ℕ) (f : Function) : Type 0 where
  pub term : Sum
  pub at : slice_get terms k ≡ Some term
  pub is : applied term ≡ Some f

-- the place of the last term before the n-th that applies the function
abbrev pub IsNearest : List Sum → ℕ → Function → Option ℕ → Type 0
IsNearest terms n f None = NoneBetween terms 0 n f
IsNearest terms n f (Some k) = (k < n) × Applies terms k f × NoneBetween terms (k + 1) n f

-- for each of the first n terms that applies a function the place of the nearest one before it
pub record HasEarlier (terms : List Sum) (n : ℕ) (earlier : List (Option ℕ)) : Type 0 where
  pub below : (k j : ℕ) → k < n → get_or earlier k None ≡ Some j → j < k
  pub nearest : (k : ℕ) (t : Sum) (f : Function) → k < n → slice_get terms k ≡ Some t → applied t ≡ Some f → IsNearest terms k f (get_or earlier k None)

-- whether two functions are one
abbrev pub same_function : Function → Function → Bool
same_function Product Product = true
same_function Product _ = false
same_function Quotient Quotient = true
same_function Quotient _ = false
same_function Remainder Remainder = true
same_function Remainder _ = false
same_function Length Length = true
same_function Length _ = false
same_function (Measure f) (Measure g) = f.0 == g.0
same_function (Measure f) _ = false

-- the place that is kept for a function
abbrev pub place_of : List (Function × ℕ) → Function → Option ℕ
place_of es f = lookup (same_function f) es

-- of the function that a term applies: the place that was kept, and what is kept of each function once the term's own place is
abbrev pub old_place : List (Function × ℕ) → Option Function → Option ℕ
old_place es None = None
old_place es (Some f) = place_of es f

abbrev pub new_place : Option Function → ℕ → Function → Option ℕ → Option ℕ
new_place None at g old = old
new_place (Some f) at g old = if same_function f g then Some at else old
