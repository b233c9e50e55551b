-- Sets of symbols, and scopes whose symbols are among them.
use Rattle.std.proofs.Common.{◌≡◌, ℕ, Bool, true, false, ◌||◌, [], ◌∷◌, ◌++◌, Option, Some, None, refl, ap}
use Rattle.std.proofs.lemmas.Bool.{eqb-true, eq-eqb}
use Rattle.lq_logic_predicates.specs.declared.symbol.Symbol.{Symbol}
use Rattle.lq_logic_predicates.specs.declared.symbol.Symbol.TheVariants.{Value, Bound, Position}
use Rattle.lq_logic_predicates.specs.Sum.{same_symbol}
use Rattle.lq_refined_instances.specs.Scopes.{Scope}
use Rattle.lq_refined_types.specs.Types.Operations.{symbol_of}
use Rattle.lq_text_qualifiers.specs.Faults.Shapes.{Shape, int, bool, array, data_of}
use Rattle.lq_text_qualifiers.specs.Faults.Shapes as shape
use Rattle.lq_refined_types.specs.Types.Refined.{Kind, number, truth_value, object, other}
use Rattle.lq_sound_values.specs.Inclusion.Symbols.{Symbols, with_symbol}
use Rattle.lq_refined_templates.specs.Templates.Scopes as scopes
use Rattle.lq_sound_scope.specs.Scopes.Over.{IsWithin, AreWithin, Names, SymbolOver, ScopeOver, kind_of, of_any_sort, scope_names, with_argument, with_sort}

-- ---- symbols

pub or_left : (a b : Bool) → a ≡ true → (a || b) ≡ true
or_left true b h = refl
or_left false b h = cc

pub or_right : (a b : Bool) → b ≡ true → (a || b) ≡ true
or_right true b h = refl
or_right false b h = h

pub same_refl : (x : Symbol) → same_symbol x x ≡ true
same_refl Value = refl
same_refl (Bound x) = eq-eqb x.0 x.0 refl
same_refl (Position i) = eq-eqb i i refl

pub same_is : (x y : Symbol) → same_symbol x y ≡ true → x ≡ y
same_is Value Value h = refl
same_is (Bound x) (Bound y) h = ap (λ n. Bound (record { 0 = n })) (eqb-true x.0 y.0 h)
same_is (Position i) (Position j) h = ap Position (eqb-true i j h)
same_is Value (Bound y) h = cc
same_is Value (Position j) h = cc
same_is (Bound x) Value h = cc
same_is (Bound x) (Position j) h = cc
same_is (Position i) Value h = cc
same_is (Position i) (Bound y) h = cc

pub within_one : (N : Symbols) (x : Symbol) → IsWithin N (with_symbol N x)
within_one N x y h = or_left (N y) (same_symbol x y) h

pub own_one : (N : Symbols) (x : Symbol) → with_symbol N x x ≡ true
own_one N x = or_right (N x) (same_symbol x x) (same_refl x)

pub within_sort : (N : Names) (k : Kind) (x : Symbol) → AreWithin N (with_sort N k x)
within_sort N number x = record { terms = within_one N.terms x; flags = λ y h. h }
within_sort N truth_value x = record { terms = λ y h. h; flags = within_one N.flags x }
within_sort N object x = record { terms = within_one N.terms x; flags = λ y h. h }
within_sort N other x = record { terms = λ y h. h; flags = λ y h. h }

-- ---- scopes

-- the symbols of a scope are of these names
abbrev pub IsIn : Names → Shape → Symbol → Type 0
IsIn N s x = SymbolOver N [] s x

abbrev pub ScopeIn : Names → Scope → Type 0
ScopeIn N Γ = ScopeOver N [] Γ

pub in_sort : (N : Names) (s : Shape) (x : Symbol) → IsIn (with_sort N (kind_of s) x) s x
in_sort N int x = own_one N.terms x
in_sort N bool x = own_one N.flags x
in_sort N array x = own_one N.terms x
in_sort N (data_of d) x = own_one N.terms x
in_sort N shape.other x = tt

pub in_within : (N M : Names) → AreWithin N M → (s : Shape) (x : Symbol) → IsIn N s x → IsIn M s x
in_within N M w int x h = w.terms x h
in_within N M w bool x h = w.flags x h
in_within N M w array x h = w.terms x h
in_within N M w (data_of d) x h = w.terms x h
in_within N M w shape.other x h = tt

pub scope_within : (N M : Names) → AreWithin N M → (Γ : Scope) → ScopeIn N Γ → ScopeIn M Γ
scope_within N M w [] h = tt
scope_within N M w (e ∷ Γ) h = (in_within N M w e.1 e.0 h.0, scope_within N M w Γ h.1)

pub scopes_joined : (N : Names) (Γ Δ : Scope) → ScopeIn N Γ → ScopeIn N Δ → ScopeIn N (Γ ++ Δ)
scopes_joined N [] Δ h w = w
scopes_joined N (e ∷ Γ) Δ h w = (h.0, scopes_joined N Γ Δ h.1 w)

pub scope_with : (N : Names) (x : Symbol) (s : Shape) (Γ : Scope) → ScopeIn N Γ → IsIn N s x → ScopeIn N (scopes.with_symbol x s Γ)
scope_with N x int Γ h e = scopes_joined N Γ _ h (e, tt)
scope_with N x bool Γ h e = scopes_joined N Γ _ h (e, tt)
scope_with N x array Γ h e = scopes_joined N Γ _ h (e, tt)
scope_with N x (data_of d) Γ h e = scopes_joined N Γ _ h (e, tt)
scope_with N x shape.other Γ h e = h

-- with a symbol that is one of more names
pub scope_with_one : (N : Names) (x : Symbol) (s : Shape) (Γ : Scope) → ScopeIn N Γ → ScopeIn (with_sort N (kind_of s) x) (scopes.with_symbol x s Γ)
scope_with_one N x s Γ h =
    scope_with (with_sort N (kind_of s) x) x s Γ (scope_within N (with_sort N (kind_of s) x) (within_sort N (kind_of s) x) Γ h) (in_sort N s x)

pub scope_with_argument : (N : Names) (x : Option ℕ) (s : Shape) (Γ : Scope) → ScopeIn N Γ
    → ScopeIn (with_argument N x (kind_of s)) (scopes.with_argument x s Γ)
scope_with_argument N None s Γ h = h
scope_with_argument N (Some x) s Γ h = scope_with_one N (symbol_of x) s Γ h

-- names of whatever sort
pub in_any : (N : Symbols) (s : Shape) (x : Symbol) → N x ≡ true → IsIn (of_any_sort N) s x
in_any N int x h = h
in_any N bool x h = h
in_any N array x h = h
in_any N (data_of d) x h = h
in_any N shape.other x h = tt

-- a scope is of its own names
pub own_names : (Γ : Scope) → ScopeIn (scope_names Γ) Γ
own_names [] = tt
own_names (e ∷ Γ) =
    (in_sort (scope_names Γ) e.1 e.0, scope_within (scope_names Γ) (with_sort (scope_names Γ) (kind_of e.1) e.0) (within_sort (scope_names Γ) (kind_of e.1) e.0) Γ (own_names Γ))
