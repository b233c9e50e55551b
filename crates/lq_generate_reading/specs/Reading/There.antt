-- Points whose scopes and types are there.
use Rattle.std.specs.Prelude.{ℕ, ◌<◌, All}
use Rattle.lq_refined_templates.specs.declared.programs.point.Point.{Point}
use Rattle.lq_refined_templates.specs.declared.programs.point.Point.TheVariants as point

-- the numbers of a point's scope and types are below these
abbrev pub IsThere : ℕ → ℕ → Point → Type 0
IsThere a b (point.Whole Γ xs t) = (Γ < a) × (t < b)
IsThere a b (point.Inner Γ t) = (Γ < a) × (t < b)
IsThere a b (point.Constant Γ t) = (Γ < a) × (t < b)
IsThere a b (point.Empty Γ t) = (Γ < a) × (t < b)
IsThere a b (point.Each Γ ts) = (Γ < a) × All (λ t. t < b) ts.items
IsThere a b (point.Idle ts) = All (λ t. t < b) ts.items
