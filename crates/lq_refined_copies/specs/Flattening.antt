-- Scopes of a pattern that are completed in a table.
use Rattle.std.specs.Prelude.{◌≡◌, ◌<◌, ℕ, Bool, true, false, List, [], ◌∷◌, All, length, slice_index_or}
use Rattle.lq_refined_instances.specs.Scopes.{Scope, scope_in}
use Rattle.lq_refined_instances.specs.Views.{scopes_view}
use Rattle.lq_refined_instances.specs.declared.unknowns.Unknown.{Unknown}
use Rattle.lq_refined_instances.specs.declared.unknowns.Unknowns.{Unknowns}
use Rattle.lq_logic_predicates.specs.declared.symbol.Symbol.{Symbol}
use Rattle.lq_logic_predicates.specs.declared.symbol.Symbol.TheVariants.{Value, Bound, Position}
use Rattle.lq_refined_copies.specs.Completed.{completed}

abbrev pub is_value : Symbol → Bool
is_value Value = true
is_value (Bound x) = false
is_value (Position k) = false

abbrev pub is_nothing : Scope → Bool
is_nothing [] = true
is_nothing (v ∷ Γ) = false

-- by these numbers a table has the first scopes of another one, completed
pub record AreCompleted (Γ : Scope) (table all : List Scope) (ns : List ℕ) : Type 0 where
  pub there : (i : ℕ) → i < length ns → slice_index_or ns i 0 < length all
  pub same : (i : ℕ) → i < length ns → scope_in all (slice_index_or ns i 0) ≡ completed Γ (scope_in table i)

-- an unknown with another number for its scope
abbrev pub numbered : List ℕ → Unknown → Unknown
numbered ns u = record { scope = slice_index_or ns u.scope 0; shape = u.shape }

-- each unknown has a scope of the table
abbrev pub AreThere : Unknowns → Type 0
AreThere us = All (λ u. u.scope < length (scopes_view us.scopes)) us.unknowns.items
