-- Points whose numbers stand in their tables.
use Rattle.std.specs.Prelude.{ℕ, ◌<◌, All}
use Rattle.lq_refined_templates.specs.declared.programs.point.Point.{Point}
use Rattle.lq_refined_templates.specs.declared.programs.point.Point.TheVariants as point

-- its scope is one of so many, and its types are of so many
abbrev pub IsThere : ℕ → ℕ → Point → Type 0
IsThere scopes types (point.Whole Γ xs t) = (Γ < scopes) × (t < types)
IsThere scopes types (point.Inner Γ t) = (Γ < scopes) × (t < types)
IsThere scopes types (point.Constant Γ t) = (Γ < scopes) × (t < types)
IsThere scopes types (point.Empty Γ t) = (Γ < scopes) × (t < types)
IsThere scopes types (point.Each Γ ts) = (Γ < scopes) × All (λ t. t < types) ts.items
IsThere scopes types (point.Idle ts) = All (λ t. t < types) ts.items
