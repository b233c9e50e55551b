-- One more scope, unknown or type.
use Rattle.std.proofs.Common.{◌≡◌, ◌<◌, List, [], ◌∷◌, ◌++◌, length, map, refl, arith}
use Rattle.lq_refined_instances.specs.Scopes as instances
use Rattle.lq_refined_instances.specs.Scopes.{Added, grown, scope_in, shown}
use Rattle.lq_refined_instances.specs.Seen.{added_view}
use Rattle.lq_logic_predicates.specs.declared.symbol.Symbol.{Symbol}
use Rattle.lq_refined_copies.specs.Views.{table_of}
use Rattle.lq_refined_copies.specs.declared.unknowns.SharedUnknowns.{SharedUnknowns}
use Rattle.lq_text_qualifiers.specs.Sorting.Views.{shape_view}
use Rattle.lq_text_qualifiers.specs.declared.sorting.shape.Shape.{Shape}
use Rattle.lq_text_qualifiers.specs.declared.sorting.shape.Shape.TheVariants as kind
use Rattle.lq_refined_templates.specs.Templates.Scopes.{with_symbol}

-- the first scope is empty
first_kept : (Γ : instances.Scope) (all : List instances.Scope) (es : List Added) → scope_in (grown (Γ ∷ all) es) 0 ≡ Γ
first_kept Γ all [] = refl
first_kept Γ all (e ∷ es) = first_kept Γ (all ++ shown (Γ ∷ all) e ∷ []) es

some_grown : (Γ : instances.Scope) (all : List instances.Scope) (es : List Added) → 0 < length (grown (Γ ∷ all) es)
some_grown Γ all [] = omega arith
some_grown Γ all (e ∷ es) = some_grown Γ (all ++ shown (Γ ∷ all) e ∷ []) es

pub first_empty : (u : SharedUnknowns) → scope_in (table_of u) 0 ≡ []
first_empty u = first_kept [] [] (map added_view u.scopes.additions.items)

pub first_there : (u : SharedUnknowns) → 0 < length (table_of u)
first_there u = some_grown [] [] (map added_view u.scopes.additions.items)

pub symbol_spoken : (x : Symbol) (s : Shape) (Γ : instances.Scope) → with_symbol x (shape_view s) Γ ≡ Γ ++ (x, shape_view s) ∷ []
symbol_spoken x kind.Int Γ = refl
symbol_spoken x kind.Bool Γ = refl
symbol_spoken x kind.Array Γ = refl
symbol_spoken x (kind.Data d) Γ = refl
