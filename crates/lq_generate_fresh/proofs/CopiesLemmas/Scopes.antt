-- Scopes that begin with the mark, and scopes that never do.
use Rattle.std.proofs.Common.{◌≡◌, ℕ, suc, [], ◌∷◌, ◌++◌, Option, Some, None, refl, sym, append_assoc}
use Rattle.std.proofs.lemmas.List.{append-nil}
use Rattle.lq_refined_instances.specs.Scopes.{Scope}
use Rattle.lq_logic_predicates.specs.declared.symbol.Symbol.{Symbol}
use Rattle.lq_logic_predicates.specs.declared.symbol.Symbol.TheVariants.{Value, Bound, Position}
use Rattle.lq_refined_types.specs.Types.Operations.{symbol_of}
use Rattle.lq_refined_copies.specs.Completed.{completed, mark}
use Rattle.lq_text_qualifiers.specs.Faults.Shapes.{Shape, int, bool, array, data_of, other}
use Rattle.lq_refined_templates.specs.Templates.Scopes.{with_argument, with_position, with_symbol}

-- ---- a scope that another completes

-- the first scope has Γ where the second one has the mark
pub record Stands (Γ A B : Scope) : Type 0 where
  pub rest : Scope
  pub here : A ≡ Γ ++ rest
  pub marked : B ≡ mark ∷ rest

pub stands_completed : (Γ A B : Scope) → Stands Γ A B → A ≡ completed Γ B
stands_completed Γ A B s = let e : A ≡ Γ ++ s.rest = s.here in let f : B ≡ mark ∷ s.rest = s.marked in let h : completed Γ (mark ∷ s.rest) ≡ Γ ++ s.rest = refl in cc

pub stands_alone : (Γ : Scope) → Stands Γ Γ (mark ∷ [])
stands_alone Γ = record { rest = []; here = sym (append-nil Γ); marked = refl }

stands_with : (Γ A B Δ : Scope) → Stands Γ A B → Stands Γ (A ++ Δ) (B ++ Δ)
stands_with Γ A B Δ h =
    let e : A ≡ Γ ++ h.rest = h.here in
    let f : B ≡ mark ∷ h.rest = h.marked in
    let a : (Γ ++ h.rest) ++ Δ ≡ Γ ++ (h.rest ++ Δ) = append_assoc Γ h.rest Δ in
    let b : (mark ∷ h.rest) ++ Δ ≡ mark ∷ (h.rest ++ Δ) = refl in
    record { rest = h.rest ++ Δ; here = cc; marked = cc }

pub stands_with_symbol : (Γ A B : Scope) (x : Symbol) (s : Shape) → Stands Γ A B → Stands Γ (with_symbol x s A) (with_symbol x s B)
stands_with_symbol Γ A B x int h = stands_with Γ A B ((x, int) ∷ []) h
stands_with_symbol Γ A B x bool h = stands_with Γ A B ((x, bool) ∷ []) h
stands_with_symbol Γ A B x array h = stands_with Γ A B ((x, array) ∷ []) h
stands_with_symbol Γ A B x (data_of d) h = stands_with Γ A B ((x, data_of d) ∷ []) h
stands_with_symbol Γ A B x other h = h

pub stands_with_argument : (Γ A B : Scope) (x : Option ℕ) (s : Shape) → Stands Γ A B → Stands Γ (with_argument x s A) (with_argument x s B)
stands_with_argument Γ A B None s h = h
stands_with_argument Γ A B (Some x) s h = stands_with_symbol Γ A B (symbol_of x) s h

-- ---- a scope that nothing completes

-- a scope that doesn't begin with the mark
abbrev pub IsOwn : Scope → Type 0
IsOwn [] = Unit {0}
IsOwn ((Value, s) ∷ Δ) = ⊥
IsOwn ((Bound x, s) ∷ Δ) = Unit {0}
IsOwn ((Position k, s) ∷ Δ) = Unit {0}

pub own_completed : (Γ Δ : Scope) → IsOwn Δ → completed Γ Δ ≡ Δ
own_completed Γ [] h = refl
own_completed Γ ((Value, s) ∷ Δ) h = absurd h
own_completed Γ ((Bound x, s) ∷ Δ) h = refl
own_completed Γ ((Position k, s) ∷ Δ) h = refl

own_with : (k : ℕ) (s : Shape) (Δ : Scope) → IsOwn Δ → IsOwn (Δ ++ (Position k, s) ∷ [])
own_with k s [] h = tt
own_with k s ((Value, r) ∷ Δ) h = absurd h
own_with k s ((Bound x, r) ∷ Δ) h = tt
own_with k s ((Position i, r) ∷ Δ) h = tt

pub own_with_position : (k : ℕ) (s : Shape) (Δ : Scope) → IsOwn Δ → IsOwn (with_position k s Δ)
own_with_position k int Δ h = own_with (suc k) int Δ h
own_with_position k bool Δ h = own_with (suc k) bool Δ h
own_with_position k array Δ h = own_with (suc k) array Δ h
own_with_position k (data_of d) Δ h = own_with (suc k) (data_of d) Δ h
own_with_position k other Δ h = h
