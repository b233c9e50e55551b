-- What is left of a walk that stands in memory.
use Rattle.std.specs.Prelude.{ℕ, List, [], ◌∷◌, ◌++◌, map, reverse}
use Rattle.lq_text_tree.specs.Items.{item_view}
use Rattle.lq_text_tree.specs.PatternView.{pat_view}
use Rattle.lq_text_tree.specs.TreeView.{tree_view, function_view}
use Rattle.lq_text_walk.specs.Walk.Visits as plain
use Rattle.lq_text_walk.specs.Walk.Visits.{visits_of, visits_of_item}
use Rattle.lq_text_walk.specs.declared.walk.walk.Visit.{Visit}
use Rattle.lq_text_walk.specs.declared.walk.walk.Visit.TheVariants.{EnterItem, LeaveItem, Enter, Leave, LeaveFunction, Declare, Show, Hide, ShowName, HideName}
use Rattle.lq_text_walk.specs.declared.walk.walk.Walk.{Walk}

-- an item or a node that is still to be entered stands for all its visits
abbrev pub spread : plain.Visit → List plain.Visit
spread (plain.enter_item i) = visits_of_item i
spread (plain.enter t) = visits_of t
spread v = v ∷ []

-- the visits for which these stand, one after another
abbrev pub spread_all : List plain.Visit → List plain.Visit
spread_all [] = []
spread_all (v ∷ vs) = spread v ++ spread_all vs

module _ (B : Type 0) (number : B → ℕ) where
  abbrev pub visit_view : Visit B → plain.Visit
  visit_view (EnterItem i) = plain.enter_item (item_view B number i.now)
  visit_view (LeaveItem i) = plain.leave_item (item_view B number i.now)
  visit_view (Enter e) = plain.enter (tree_view B number e.now)
  visit_view (Leave e) = plain.leave (tree_view B number e.now)
  visit_view (LeaveFunction f) = plain.leave_function (function_view B number f.now)
  visit_view (Declare p) = plain.declare (pat_view B number p.now)
  visit_view (Show p) = plain.show (pat_view B number p.now)
  visit_view (Hide p) = plain.hide (pat_view B number p.now)
  visit_view (ShowName x) = plain.show_name (number x.now)
  visit_view (HideName x) = plain.hide_name (number x.now)

  -- what stands in a list
  abbrev pub seen : List (Visit B) → List plain.Visit
  seen = map visit_view

  abbrev pub left : Walk B → List plain.Visit
  left w = spread_all (reverse (seen w.stack.items))
