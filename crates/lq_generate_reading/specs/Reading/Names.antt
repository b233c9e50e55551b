-- Names that are bound for a part, and let go behind it.
use Rattle.std.specs.Prelude.{◌≡◌, ℕ, ◌-◌, Bool, List, ◌++◌, cond, length, take, drop}
use Rattle.lq_refined_templates.specs.Points.Reading.{all_idled}
use Rattle.lq_refined_templates.specs.Points.Seen.{Seen}
use Rattle.lq_generate_reading.specs.Visibility.Scopes.{Longer}
use Rattle.lq_generate_reading.specs.declared.visibility.notes.Notes.{Notes}
use Rattle.lq_generate_reading.specs.Reading.State.{count_of, points_in, scopes_of, seen_of, Stands}
use Rattle.lq_generate_reading.specs.declared.reading.state.State.{State}

-- these names are bound now, and all else is as before
pub record Sees (m : Notes) (old new : State) (Δ : List Seen) : Type 0 where
  pub seen : seen_of new ≡ Δ
  pub count : count_of new ≡ count_of old
  pub points : points_in m new ≡ points_in m old
  pub scopes : Longer (scopes_of old) (scopes_of new)
  pub stands : Stands m new

-- the first names alone are left, so many of them
abbrev pub left_of : State → ℕ → List Seen
left_of s k = drop (length (seen_of s) - k) (seen_of s)

-- the points from a mark on are idle now, unless they stay, and all else is as before
pub record Idles (m : Notes) (old new : State) (mark : ℕ) (stay : Bool) : Type 0 where
  pub points : points_in m new ≡ cond stay (points_in m old) (take mark (points_in m old) ++ all_idled (drop mark (points_in m old)))
  pub seen : seen_of new ≡ seen_of old
  pub scopes : Longer (scopes_of old) (scopes_of new)
  pub stands : Stands m new
