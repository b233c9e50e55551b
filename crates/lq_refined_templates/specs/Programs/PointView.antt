-- The points that those in memory stand for, by the scopes and the types that their numbers have.
use Rattle.std.specs.Prelude.{ℕ, List, map, Option}
use Rattle.std.specs.Option.{option_map}
use Rattle.lq_base_names.specs.declared.name.Binder.{Binder}
use Rattle.lq_refined_instances.specs.Scopes.{Scope, scope_in}
use Rattle.lq_text_tree.specs.MlType.{MlType}
use Rattle.lq_types_table.specs.Heads.{each}
use Rattle.lq_types_table.specs.Nodes.{at}
use Rattle.lq_refined_templates.specs.Points.Point as p
use Rattle.lq_refined_templates.specs.declared.programs.point.Point.{Point}
use Rattle.lq_refined_templates.specs.declared.programs.point.Point.TheVariants as point

abbrev pub name_view : Option Binder → Option ℕ
name_view = option_map (λ x. x.0)

module _ (scopes : List Scope) (types : List MlType) where
  abbrev pub point_view : Point → p.Point
  point_view (point.Whole Γ xs t) = p.whole (scope_in scopes Γ) (map name_view xs.items) (at types t)
  point_view (point.Inner Γ t) = p.inner (scope_in scopes Γ) (at types t)
  point_view (point.Constant Γ t) = p.constant (scope_in scopes Γ) (at types t)
  point_view (point.Empty Γ t) = p.empty (scope_in scopes Γ) (at types t)
  point_view (point.Each Γ ts) = p.each (scope_in scopes Γ) (each (at types) ts.items)
  point_view (point.Idle ts) = p.idle (each (at types) ts.items)

  abbrev pub points_view : List Point → List p.Point
  points_view = map point_view
