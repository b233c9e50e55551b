-- The subtrees of a predicate that are still to be looked at for placeholders, and those that were found.
use Rattle.std.specs.Prelude.{◌≡◌, ℕ, List, map, reverse}
use Rattle.lq_text_tree.specs.PredView.{pred_view}
use Rattle.lq_text_qualifiers.specs.Faults.Lookups.{first_in}
use Rattle.lq_text_qualifiers.specs.Faults.Predicates as plain
use Rattle.lq_text_qualifiers.specs.Faults.Predicates.{spot}
use Rattle.lq_text_qualifiers.specs.Faults.Shapes.{Shape}
use Rattle.lq_text_qualifiers.specs.Sorting.Placeholders.{numbered}
use Rattle.lq_text_qualifiers.specs.Sorting.Views.{asked_view, held, shape_view}
use Rattle.lq_text_qualifiers.specs.declared.sorting.placeholders.Found.{Found}
use Rattle.lq_text_qualifiers.specs.declared.sorting.placeholders.Spot.{Spot}
use Rattle.lq_text_qualifiers.specs.declared.sorting.placeholders.UsedAs.{UsedAs}

abbrev pub spot_view : Spot → plain.Spot
spot_view s = spot (asked_view s.asked) (pred_view s.tree.now)

-- what is left of a stack, the next first
abbrev pub pending : List Spot → List plain.Spot
pending ss = map spot_view (reverse ss)

abbrev pub use_view : UsedAs → ℕ × Shape
use_view u = (u.name.0, shape_view u.shape)

abbrev pub found_uses : Found → List (ℕ × Shape)
found_uses f = map use_view f.uses.items

-- the table has the numbers of the uses
abbrev pub AreNumbered : Found → Type 0
AreNumbered f = (x : ℕ) → held f.numbers x ≡ first_in (numbered 0 (found_uses f)) x
