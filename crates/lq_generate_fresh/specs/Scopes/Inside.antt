-- The scopes of a pattern: those that begin with the mark stand behind the scope at which the pattern is used.
use Rattle.std.specs.Prelude.{◌≡◌, ℕ, ◌<◌, Bool, true, false, List, [], ◌∷◌, length, slice_index_or, if◌then◌else◌}
use Rattle.lq_refined_instances.specs.Scopes.{Scope, scope_in}
use Rattle.lq_logic_predicates.specs.declared.symbol.Symbol.{Symbol}
use Rattle.lq_logic_predicates.specs.declared.symbol.Symbol.TheVariants.{Value, Bound, Position}
use Rattle.lq_text_qualifiers.specs.Faults.Shapes.{Shape}
use Rattle.lq_refined_substitution.specs.declared.substitution.places.Inner.{Inner}
use Rattle.lq_generate_fresh.specs.Scopes.Numbered.{list_at, symbols_of}

abbrev pub is_value : Symbol → Bool
is_value Value = true
is_value (Bound x) = false
is_value (Position k) = false

abbrev pub is_nothing : Scope → Bool
is_nothing [] = true
is_nothing (v ∷ Δ) = false

-- whether a scope begins with the mark
abbrev pub is_marked : Scope → Bool
is_marked [] = false
is_marked (v ∷ Δ) = is_value v.0

-- what stands behind the mark, or the whole where there is none
abbrev pub unmarked : Scope → Scope
unmarked [] = []
unmarked (v ∷ Δ) = if is_value v.0 then Δ else v ∷ Δ

-- an unknown of a pattern: whether the scope at which that is used stands before its own, and the symbols of its own
abbrev pub inner_of : Scope → Bool × List Symbol
inner_of Δ = (is_marked Δ, symbols_of (unmarked Δ))

abbrev pub inner_unknown : Scope × Shape → Bool × List Symbol
inner_unknown u = inner_of u.0

abbrev pub symbols_of_unknown : Scope × Shape → List Symbol
symbols_of_unknown u = symbols_of u.0

-- a scope is made as one of a pattern
pub record IsInner (Δ : Scope) (lists : List (List Symbol)) (i : Inner) : Type 0 where
  pub there : i.scope < length lists
  pub marked : i.is_behind ≡ is_marked Δ
  pub same : list_at lists i.scope ≡ symbols_of (unmarked Δ)

-- the empty scope of substitution's, which is that of a pattern too
abbrev pub nothing : Inner
nothing = record { scope = 0; is_behind = false }

-- the first scopes of the table are made so
abbrev pub AreInside : List Scope → List (List Symbol) → List Inner → Type 0
AreInside all lists is = (i : ℕ) → i < length is → IsInner (scope_in all i) lists (slice_index_or is i nothing)
