use Rattle.std.proofs.Common.{◌≡◌, ℕ, ◌++◌, List, All, length, reverse, take, drop}
use Rattle.lq_refined_instances.specs.Scopes.{Scope}
use Rattle.lq_refined_templates.specs.Programs.PointView.{points_view}
use Rattle.lq_refined_templates.specs.Points.Reading.{all_idled}
use Rattle.lq_text_tree.specs.MlType.{MlType}
use Rattle.lq_generate_reading.specs.Reading.There.{IsThere}
use Rattle.lq_generate_reading.proofs.reading.idling.idle_from.Given as goal

abbrev pub invariant-loop-point : goal.invariant-loop-point
invariant-loop-point l = record {
  idled : (scopes : List Scope) (types : List MlType) → points_view scopes types l.points.items ++ all_idled (points_view scopes types (reverse l.rest.items))
      ≡ take l.mark (points_view scopes types l.fn.points.items) ++ all_idled (drop l.mark (points_view scopes types l.fn.points.items));
  there : (a b : ℕ) → All (IsThere a b) l.fn.points.items → All (IsThere a b) l.points.items;
  left : (a b : ℕ) → All (IsThere a b) l.fn.points.items → All (IsThere a b) (reverse l.rest.items);
}

abbrev pub decreases-loop-point : goal.decreases-loop-point
decreases-loop-point l = length l.rest.items
