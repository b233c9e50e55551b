-- What is visible at a place: symbols with their shapes, the outermost first. A table of scopes names parents, so that scopes share.
use Rattle.std.specs.Prelude.{◌≡◌, ℕ, zero, suc, ◌+◌, ◌≤◌, List, [], ◌∷◌, ◌++◌, map, filter, length, slice_get, Option, Some, None, Bool, false, not, if◌then◌else◌}
use Rattle.lq_logic_predicates.specs.Sum.{same_symbol}
use Rattle.lq_logic_predicates.specs.declared.symbol.Symbol.{Symbol}
use Rattle.lq_text_qualifiers.specs.Faults.Shapes.{Shape, is_same}

-- a symbol with its shape
abbrev pub Visible : Type 0
Visible = Symbol × Shape

abbrev pub Scope : Type 0
Scope = List Visible

-- the symbols of a shape, in the order of the scope
abbrev pub symbols_of : Scope → Shape → List Symbol
symbols_of Γ s = map (λ e. e.0) (filter (λ e. is_same s e.1) Γ)

-- a scope by its number; past the last one nothing is visible
abbrev pub scope_in : List Scope → ℕ → Scope
scope_in [] i = []
scope_in (x ∷ xs) zero = x
scope_in (x ∷ xs) (suc i) = scope_in xs i

-- the number of a scope, what one more shows besides, and what it hides
pub record Added : Type 0 where
  pub parent : ℕ
  pub visible : Visible
  pub hidden : Option Visible

abbrev pub is_hidden : Option Visible → Visible → Bool
is_hidden None e = false
is_hidden (Some h) e = same_symbol h.0 e.0

-- a scope without what is hidden
abbrev pub without : Option Visible → Scope → Scope
without h Γ = filter (λ e. not (is_hidden h e)) Γ

-- what one more scope shows: what its parent shows without what it hides, and its own symbol behind that
abbrev pub shown : List Scope → Added → Scope
shown all e = without e.hidden (scope_in all e.parent) ++ e.visible ∷ []

abbrev pub grown : List Scope → List Added → List Scope
grown all [] = all
grown all (e ∷ es) = grown (all ++ shown all e ∷ []) es

-- the parent of each is an earlier scope; the first scope is empty, and isn't among these
abbrev pub AreBelow : List Added → Type 0
AreBelow es = (k : ℕ) (e : Added) → slice_get es k ≡ Some e → e.parent ≤ k

abbrev pub is_single : Visible → Scope → Bool
is_single h [] = false
is_single h (e ∷ []) = is_same h.1 e.1
is_single h (e ∷ f ∷ Γ) = false

-- whether a symbol is visible in a scope with its shape, and nothing else there is that symbol
abbrev pub is_once : Visible → Scope → Bool
is_once h Γ = is_single h (filter (λ e. same_symbol h.0 e.0) Γ)

-- how many symbols of a shape are hidden
abbrev pub hidden_count : Shape → Option Visible → ℕ
hidden_count s None = 0
hidden_count s (Some h) = if is_same s h.1 then 1 else 0

-- of each shape so many symbols are hidden in a scope
abbrev pub IsCounted : Option Visible → Scope → Type 0
IsCounted h Γ = (s : Shape) → length (symbols_of Γ s) ≡ length (symbols_of (without h Γ) s) + hidden_count s h

-- each hides as many symbols of its parent as it says
abbrev pub AreCounted : List Added → Type 0
AreCounted es = (k : ℕ) (e : Added) → slice_get es k ≡ Some e → IsCounted e.hidden (scope_in (grown ([] ∷ []) es) e.parent)
