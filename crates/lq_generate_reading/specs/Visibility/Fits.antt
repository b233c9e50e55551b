-- What is remembered of scopes is right.
use Rattle.std.specs.Prelude.{List, [], length, reverse, take}
use Rattle.lq_refined_instances.specs.Scopes.{Scope}
use Rattle.lq_generate_reading.specs.Visibility.Latest.{latest_in}
use Rattle.lq_generate_reading.specs.Visibility.Levels.{AreLevels}
use Rattle.lq_generate_reading.specs.Visibility.Notes.{annotation_view}
use Rattle.lq_generate_reading.specs.Visibility.Stack.{stacked}
use Rattle.lq_generate_reading.specs.declared.visibility.bound.Bound.{Bound}
use Rattle.lq_generate_reading.specs.declared.visibility.notes.Notes.{Notes}

pub record Fits (m : Notes) (all : List Scope) (b : Bound) : Type 0 where
  pub levels : AreLevels (annotation_view m) all (reverse b.levels.items) (stacked [] (take (length b.levels.items) b.entries.items)) (latest_in b.latest.entries)
