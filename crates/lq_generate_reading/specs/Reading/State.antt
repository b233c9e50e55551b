-- What is known while a program is read, and what reading a part makes of it.
use Rattle.std.specs.Prelude.{◌≡◌, ℕ, List, [], ◌∷◌, ◌++◌, All, length}
use Rattle.lq_refined_instances.specs.Scopes.{Scope}
use Rattle.lq_refined_instances.specs.Views.{scopes_view}
use Rattle.lq_refined_templates.specs.Programs.PointView.{points_view}
use Rattle.lq_refined_templates.specs.Points.Point as p
use Rattle.lq_refined_templates.specs.Points.Pure.{Read}
use Rattle.lq_refined_templates.specs.Points.Seen.{Seen}
use Rattle.lq_generate_reading.specs.Visibility.Fits.{Fits}
use Rattle.lq_generate_reading.specs.Visibility.Notes.{types_in, IsRight}
use Rattle.lq_generate_reading.specs.Visibility.Scopes.{Longer}
use Rattle.lq_generate_reading.specs.Visibility.Stack.{seen_view}
use Rattle.lq_generate_reading.specs.declared.visibility.notes.Notes.{Notes}
use Rattle.lq_generate_reading.specs.Reading.There.{IsThere}
use Rattle.lq_generate_reading.specs.declared.reading.state.State.{State}

abbrev pub scopes_of : State → List Scope
scopes_of s = scopes_view s.scopes

abbrev pub seen_of : State → List Seen
seen_of s = seen_view s.bound

-- the number of the next point
abbrev pub count_of : State → ℕ
count_of s = length s.points.items

abbrev pub points_in : Notes → State → List p.Point
points_in m s = points_view (scopes_of s) (types_in m) s.points.items

-- each point's scope and types are there
pub record Stands (m : Notes) (s : State) : Type 0 where
  pub right : IsRight m
  pub fits : Fits m (scopes_of s) s.bound
  pub there : All (IsThere (length (scopes_of s)) (length (types_in m))) s.points.items

-- what is made of a part is what the part is read as, and its points are behind the others; the names are as before
pub record Reads {A : Type 0} (m : Notes) (old new : State) (made : A) (r : Read A) : Type 0 where
  pub read : made ≡ r.read
  pub points : points_in m new ≡ points_in m old ++ r.points
  pub seen : seen_of new ≡ seen_of old
  pub scopes : Longer (scopes_of old) (scopes_of new)
  pub stands : Stands m new

-- the number of a point, and that point
abbrev pub noted : ℕ → p.Point → Read ℕ
noted k q = record { read = k; points = q ∷ [] }
