-- The parts of a node or an item as a walk meets them, one after another.
use Rattle.std.specs.Prelude.{ℕ, List, [], ◌∷◌, ◌++◌, map, take, slice_set, Option, Some, None, if◌then◌else◌}
use Rattle.lq_text_tree.specs.Items.{ItemForm, type_of, let_of, let_rec_of}
use Rattle.lq_text_tree.specs.Pattern.{Pattern}
use Rattle.lq_text_tree.specs.Tree.{Tree, tree}
use Rattle.lq_text_tree.specs.TreeView.{Case, Recursive}
use Rattle.lq_text_walk.specs.Walk.Shape as shape
use Rattle.lq_text_walk.specs.Walk.Shape.{Shape, shape_of}
use Rattle.lq_text_walk.specs.Walk.Visits.{Visit, enter_item, leave_item, enter, leave, leave_function, declare, show, hide, show_name, hide_name, is_before, place_of, place_of_pattern}

-- a body in which a pattern's names are visible
abbrev pub under_parts : Pattern → Tree → List Visit
under_parts p b = show p ∷ enter b ∷ hide p ∷ []

abbrev pub row_parts : List Tree → List Visit
row_parts = map enter

abbrev pub arm_parts : Case → List Visit
arm_parts a = declare a.pattern ∷ under_parts a.pattern a.body

abbrev pub arms_parts : List Case → List Visit
arms_parts [] = []
arms_parts (a ∷ as_) = arm_parts a ++ arms_parts as_

-- the one arm of a match that was written as a `let`: its pattern stands before what is matched
abbrev pub let_case : Tree → List Case → Option Case
let_case e [] = None
let_case e (a ∷ []) = if is_before (place_of_pattern a.pattern) (place_of e) then Some a else None
let_case e (a ∷ (b ∷ as_)) = None

abbrev pub let_parts : Tree → Case → List Visit
let_parts e a = declare a.pattern ∷ enter e ∷ under_parts a.pattern a.body

abbrev pub match_by : Option Case → Tree → List Case → List Visit
match_by (Some a) e as_ = let_parts e a
match_by None e as_ = enter e ∷ arms_parts as_

abbrev pub match_parts : Tree → List Case → List Visit
match_parts e as_ = match_by (let_case e as_) e as_

abbrev pub function_parts : Recursive → List Visit
function_parts r = declare r.parameter ∷ (under_parts r.parameter r.body ++ leave_function r ∷ [])

abbrev pub parts_of : Shape → List Visit
parts_of (shape.leaf h) = []
parts_of (shape.one h a) = enter a ∷ []
parts_of (shape.two h a b) = enter a ∷ enter b ∷ []
parts_of (shape.three h a b c) = enter a ∷ enter b ∷ enter c ∷ []
parts_of (shape.row h ts) = row_parts ts
parts_of (shape.function p b) = declare p ∷ under_parts p b
parts_of (shape.let_in p e b) = declare p ∷ (enter e ∷ under_parts p b)
parts_of (shape.let_rec f i q p e b) =
    show_name f ∷ (function_parts (record { id = i; place = q; parameter = p; body = e }) ++ (enter b ∷ hide_name f ∷ []))
parts_of (shape.match_on e as_) = match_parts e as_

abbrev pub item_parts : ItemForm → List Visit
item_parts (type_of d) = []
item_parts (let_of p e) = declare p ∷ enter e ∷ show p ∷ []
item_parts (let_rec_of f r) = show_name f ∷ function_parts r

-- what is inside of what is entered
abbrev pub inside : Visit → List Visit
inside (enter_item i) = item_parts i.form
inside (enter (tree i p f)) = parts_of (shape_of f)
inside v = []

-- a list with what comes behind a visit at this height; a visit without an inside goes with all above it
abbrev pub with_behind : Visit → ℕ → List Visit → List Visit
with_behind (enter_item i) at vs = slice_set vs at (leave_item i)
with_behind (enter t) at vs = slice_set vs at (leave t)
with_behind v at vs = take at vs
