-- What stays where there are more scopes.
use Rattle.std.proofs.Common.{◌≡◌, ℕ, List, [], ◌∷◌, All, length, map, refl, ap, ap₂}
use Rattle.std.proofs.lemmas.List.Elements.{All-head, All-tail, All-weaker}
use Rattle.lq_refined_instances.specs.Scopes.{Scope}
use Rattle.lq_refined_templates.specs.Programs.PointView.{name_view, point_view}
use Rattle.lq_refined_templates.specs.declared.programs.point.Point.{Point}
use Rattle.lq_refined_templates.specs.declared.programs.point.Point.TheVariants as point
use Rattle.lq_refined_templates.specs.Points.Point as p
use Rattle.lq_text_tree.specs.MlType.{MlType}
use Rattle.lq_types_table.specs.Heads.{each}
use Rattle.lq_types_table.specs.Nodes.{at}
use Rattle.lq_generate_reading.specs.Visibility.Growing.{scope_kept, scope_there}
use Rattle.lq_generate_reading.specs.Visibility.Scopes.{Longer}
use Rattle.lq_generate_reading.specs.Reading.There.{IsThere}

module _ (old new : List Scope) (longer : Longer old new) where
  pub there_kept : (b : ℕ) (q : Point) → IsThere (length old) b q → IsThere (length new) b q
  there_kept b (point.Whole Γ xs t) h = (scope_there old new Γ longer h.0, h.1)
  there_kept b (point.Inner Γ t) h = (scope_there old new Γ longer h.0, h.1)
  there_kept b (point.Constant Γ t) h = (scope_there old new Γ longer h.0, h.1)
  there_kept b (point.Empty Γ t) h = (scope_there old new Γ longer h.0, h.1)
  there_kept b (point.Each Γ ts) h = (scope_there old new Γ longer h.0, h.1)
  there_kept b (point.Idle ts) h = h

  pub all_there_kept : (b : ℕ) (qs : List Point) → All (IsThere (length old) b) qs → All (IsThere (length new) b) qs
  all_there_kept b qs h = All-weaker (IsThere (length old) b) (IsThere (length new) b) (there_kept b) qs h

  pub view_kept : (types : List MlType) (b : ℕ) (q : Point) → IsThere (length old) b q → point_view new types q ≡ point_view old types q
  view_kept types b (point.Whole Γ xs t) h = ap (λ x. p.whole x (map name_view xs.items) (at types t)) (scope_kept old new Γ longer h.0)
  view_kept types b (point.Inner Γ t) h = ap (λ x. p.inner x (at types t)) (scope_kept old new Γ longer h.0)
  view_kept types b (point.Constant Γ t) h = ap (λ x. p.constant x (at types t)) (scope_kept old new Γ longer h.0)
  view_kept types b (point.Empty Γ t) h = ap (λ x. p.empty x (at types t)) (scope_kept old new Γ longer h.0)
  view_kept types b (point.Each Γ ts) h = ap (λ x. p.each x (each (at types) ts.items)) (scope_kept old new Γ longer h.0)
  view_kept types b (point.Idle ts) h = refl

  pub views_kept : (types : List MlType) (b : ℕ) (qs : List Point) → All (IsThere (length old) b) qs
      → map (point_view new types) qs ≡ map (point_view old types) qs
  views_kept types b [] h = refl
  views_kept types b (q ∷ qs) h =
      ap₂ (λ x xs. x ∷ xs) (view_kept types b q (All-head (IsThere (length old) b) q qs h)) (views_kept types b qs (All-tail (IsThere (length old) b) q qs h))
