-- Lists of symbols by shape.
use Rattle.std.specs.Prelude.{◌≡◌, All, List, map, Some}
use Rattle.lq_text_qualifiers.specs.Sorting.Views.{shape_view}
use Rattle.lq_refined_instances.specs.Listed.{wanted}
use Rattle.lq_refined_instances.specs.Scopes.{Scope}
use Rattle.lq_refined_instances.specs.Seen.{visible_view}
use Rattle.lq_refined_instances.specs.declared.symbols.ShapeList.{ShapeList}

-- the symbols of a scope that are of the list's shape
abbrev pub IsListed : Scope → ShapeList → Type 0
IsListed Γ l = map visible_view l.symbols.items ≡ wanted (Some (shape_view l.shape)) Γ

abbrev pub AreListed : Scope → List ShapeList → Type 0
AreListed Γ ls = All (IsListed Γ) ls
