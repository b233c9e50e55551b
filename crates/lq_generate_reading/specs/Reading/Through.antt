-- A part of a whole that is read.
use Rattle.std.specs.Prelude.{◌≡◌, List, ◌++◌}
use Rattle.lq_refined_templates.specs.Points.Point as p
use Rattle.lq_refined_templates.specs.Points.Pure.{Read}
use Rattle.lq_generate_reading.specs.Visibility.Scopes.{Longer}
use Rattle.lq_generate_reading.specs.declared.visibility.notes.Notes.{Notes}
use Rattle.lq_generate_reading.specs.Reading.State.{points_in, scopes_of, Stands}
use Rattle.lq_generate_reading.specs.declared.reading.state.State.{State}

-- Of a whole some parts are read, and the rest is to come: what was made goes around what the rest is read as, and the points before its points.
pub record Through {B : Type 0} (m : Notes) (old now : State) (f : B → B) (W R : Read B) : Type 0 where
  pub between : List p.Point
  pub points : points_in m now ≡ points_in m old ++ between
  pub is : W ≡ record { read = f R.read; points = between ++ R.points }
  pub scopes : Longer (scopes_of old) (scopes_of now)
  pub stands : Stands m now
