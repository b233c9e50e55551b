-- Scopes that are visible.
use Rattle.std.specs.Prelude.{◌≡◌, ℕ, List, [], ◌∷◌, ◌++◌, cond, Option, Some, None}
use Rattle.lq_refined_instances.specs.Scopes.{Scope}
use Rattle.lq_refined_instances.specs.Seen.{visible_view}
use Rattle.lq_refined_instances.specs.declared.scope.Visible.{Visible}
use Rattle.lq_refined_templates.specs.Points.Annotation.{Annotation, is_spoken_of}
use Rattle.lq_refined_types.specs.Types.Operations.{symbol_of}
use Rattle.lq_text_qualifiers.specs.Faults.Shapes.{shape_of}
use Rattle.lq_refined_templates.specs.Templates.Scopes.{with_symbol}

-- the symbol that a name is, where predicates speak of it
abbrev pub symbol_if : Annotation → ℕ → Scope
symbol_if n x = cond (is_spoken_of n x) (with_symbol (symbol_of x) (shape_of (n.names x)) []) []

abbrev pub visible_if : Option Visible → Scope
visible_if None = []
visible_if (Some v) = visible_view v ∷ []

-- scopes that were there keep their numbers
pub record Longer (old new : List Scope) : Type 0 where
  pub added : List Scope
  pub is : new ≡ old ++ added
