-- Scopes that another scope completes: one that begins with the mark stands behind that other one, and one that doesn't stands alone.
use Rattle.std.specs.Prelude.{List, [], ◌∷◌, ◌++◌, map}
use Rattle.lq_refined_instances.specs.Scopes.{Scope, Visible}
use Rattle.lq_logic_predicates.specs.declared.symbol.Symbol.TheVariants.{Value, Bound, Position}
use Rattle.lq_text_qualifiers.specs.Faults.Shapes.{Shape, int}

-- what no scope of a program begins with
abbrev pub mark : Visible
mark = (Value, int)

-- a scope, where this one stands in the place of the mark
abbrev pub completed : Scope → Scope → Scope
completed Γ [] = []
completed Γ ((Value, s) ∷ Δ) = Γ ++ Δ
completed Γ ((Bound x, s) ∷ Δ) = (Bound x, s) ∷ Δ
completed Γ ((Position k, s) ∷ Δ) = (Position k, s) ∷ Δ

abbrev pub unknown_completed : Scope → Scope × Shape → Scope × Shape
unknown_completed Γ u = (completed Γ u.0, u.1)

abbrev pub all_completed : Scope → List (Scope × Shape) → List (Scope × Shape)
all_completed Γ us = map (unknown_completed Γ) us
