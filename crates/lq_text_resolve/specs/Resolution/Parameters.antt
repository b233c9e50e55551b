-- Where patterns stand in a program that a text has: a parameter is a name, `_`, `()` or a tuple, and what an item binds is a name, `_` or
-- `()`.
use Rattle.std.specs.Prelude.{Bool, true, ◌&&◌, ◌||◌, List, [], ◌∷◌}
use Rattle.lq_text_tree.specs.Items.{ItemTree, ItemForm, type_of, let_of, let_rec_of}
use Rattle.lq_text_tree.specs.Pattern.{Pattern}
use Rattle.lq_text_walk.specs.Walk.Shape as shape
use Rattle.lq_text_walk.specs.Walk.Shape.{Shape}
use Rattle.lq_text_walk.specs.Walk.Visits.{Visit, enter_item, leave_item, enter, leave, leave_function, declare, show, hide, show_name, hide_name, visits_of_items}
use Rattle.lq_text_scope.specs.Uses.{shape_in}
use Rattle.lq_text_walk.specs.Scoped.Uses.{is_parameter}
use Rattle.lq_text_resolve.specs.Binding.Binding.{is_tuple}

-- what may be a parameter
abbrev pub is_taken : Pattern → Bool
is_taken p = is_parameter p || is_tuple p

-- a function has such a parameter
abbrev pub takes_well : Shape → Bool
takes_well (shape.function p b) = is_taken p
takes_well (shape.leaf h) = true
takes_well (shape.one h a) = true
takes_well (shape.two h a b) = true
takes_well (shape.three h a b c) = true
takes_well (shape.row h ts) = true
takes_well (shape.let_in p e b) = true
takes_well (shape.let_rec f i q p e b) = true
takes_well (shape.match_on e cs) = true

-- an item binds such a pattern
abbrev pub binds_well : ItemForm → Bool
binds_well (type_of d) = true
binds_well (let_of p e) = is_parameter p
binds_well (let_rec_of f r) = true

-- what is met has its patterns so; the function of a recursive definition is met behind its body
abbrev pub stands : Visit → Bool
stands (enter t) = takes_well (shape_in t)
stands (leave_function r) = is_taken r.parameter
stands (enter_item i) = binds_well i.form
stands (leave_item i) = true
stands (leave t) = true
stands (declare p) = true
stands (show p) = true
stands (hide p) = true
stands (show_name f) = true
stands (hide_name f) = true

-- all that is met has them so
abbrev pub all_stand : List Visit → Bool
all_stand [] = true
all_stand (v ∷ vs) = stands v && all_stand vs

-- each pattern of a program stands where a text can have it
abbrev pub have_places : List ItemTree → Bool
have_places is = all_stand (visits_of_items is)
