-- Symbols that are listed by shape.
use Rattle.std.proofs.Common.{◌≡◌, List, [], ◌∷◌, map, Some, true, refl, ap, ◌∙◌}
use Rattle.lq_logic_predicates.specs.declared.symbol.Symbol.{Symbol}
use Rattle.lq_text_qualifiers.specs.Faults.Shapes.{Shape, is_same, int, bool, array, data_of, other}
use Rattle.std.proofs.lemmas.Bool.{eqb-true}
use Rattle.lq_refined_instances.specs.Listed.{wanted}
use Rattle.lq_refined_instances.specs.Scopes.{Scope, symbols_of}
use Rattle.lq_refined_instances.specs.Seen.{visible_view}
use Rattle.lq_refined_instances.specs.declared.scope.Visible.{Visible}

names-seen : (items : List Visible) → map (λ v. v.symbol) items ≡ map (λ e. e.0) (map visible_view items)
names-seen [] = refl
names-seen (v ∷ items) = ap (λ (l : List Symbol). v.symbol ∷ l) (names-seen items)

-- the names of what is listed are the symbols
pub symbols-are : (items : List Visible) (Γ : Scope) (s : Shape) → map visible_view items ≡ wanted (Some s) Γ → map (λ v. v.symbol) items ≡ symbols_of Γ s
symbols-are items Γ s h = names-seen items ∙ ap (map (λ e. e.0)) h

pub shape-is : (s t : Shape) → is_same s t ≡ true → s ≡ t
shape-is int int h = refl
shape-is bool bool h = refl
shape-is array array h = refl
shape-is (data_of d) (data_of e) h = ap data_of (eqb-true d e h)
shape-is other other h = refl
shape-is int _ h = cc
shape-is bool _ h = cc
shape-is array _ h = cc
shape-is (data_of d) _ h = cc
shape-is other _ h = cc
