-- What a pass over visits finds, from what is known, how many arguments are open, and the least complaint so far.
use Rattle.std.specs.Prelude.{ℕ, List, [], ◌∷◌, Option, drop, length}
use Rattle.lq_text_tree.specs.Items.{ItemForm, type_of, let_of, let_rec_of}
use Rattle.lq_text_tree.specs.Pattern.{bound_in}
use Rattle.lq_text_tree.specs.Tree.{Tree, tree}
use Rattle.lq_text_walk.specs.Walk.Shape as shape
use Rattle.lq_text_walk.specs.Walk.Shape.{Shape, shape_of}
use Rattle.lq_text_walk.specs.Walk.Visits.{Visit, enter_item, leave_item, enter, leave, leave_function, declare, show, hide, show_name, hide_name}
use Rattle.lq_text_scope.specs.Complaints.{Complaint, least_with}
use Rattle.lq_text_scope.specs.Datatypes.{of_datatype, with_datatype}
use Rattle.lq_text_scope.specs.Known.{Known, named, under}
use Rattle.lq_text_scope.specs.Patterns.{of_pattern}
use Rattle.lq_text_scope.specs.Uses.{handed_on, own}

-- what is known where the last names are no longer visible
abbrev pub without : ℕ → Known → Known
without n k = record { variables = drop n k.variables; constructors = k.constructors; types = k.types }

abbrev pub about_item : Known → ItemForm → List Complaint
about_item k (type_of d) = of_datatype k d
about_item k (let_of p e) = []
about_item k (let_rec_of f r) = []

abbrev pub known_at : Known → ItemForm → Known
known_at k (type_of d) = with_datatype k d
known_at k (let_of p e) = k
known_at k (let_rec_of f r) = k

-- the arguments that are open behind the beginning of a node
abbrev pub open_behind : Shape → ℕ → ℕ
open_behind (shape.two h a b) n = handed_on h n
open_behind (shape.leaf h) n = 0
open_behind (shape.one h a) n = 0
open_behind (shape.three h a b c) n = 0
open_behind (shape.row h ts) n = 0
open_behind (shape.function p b) n = 0
open_behind (shape.let_in p e b) n = 0
open_behind (shape.let_rec f i q p e b) n = 0
open_behind (shape.match_on e cs) n = 0

abbrev pub open_in : Tree → ℕ → ℕ
open_in (tree i p f) n = open_behind (shape_of f) n

-- what is known behind a visit, and how many arguments are open
abbrev pub known_behind : Known → Visit → Known
known_behind k (enter_item i) = known_at k i.form
known_behind k (enter t) = k
known_behind k (declare p) = k
known_behind k (leave_item i) = k
known_behind k (leave t) = k
known_behind k (leave_function r) = k
known_behind k (show p) = under p k
known_behind k (hide p) = without (length (bound_in p)) k
known_behind k (show_name x) = named x k
known_behind k (hide_name x) = without 1 k

abbrev pub open_after : ℕ → Visit → ℕ
open_after n (enter t) = open_in t n
open_after n (enter_item i) = 0
open_after n (declare p) = n
open_after n (leave_item i) = n
open_after n (leave t) = n
open_after n (leave_function r) = n
open_after n (show p) = n
open_after n (hide p) = n
open_after n (show_name x) = n
open_after n (hide_name x) = n

module _ (names : List (List ℕ)) where
  -- what one visit adds
  abbrev pub found_at : Known → ℕ → Visit → List Complaint
  found_at k n (enter_item i) = about_item k i.form
  found_at k n (enter t) = own names t k n
  found_at k n (declare p) = of_pattern k.constructors p
  found_at k n (leave_item i) = []
  found_at k n (leave t) = []
  found_at k n (leave_function r) = []
  found_at k n (show p) = []
  found_at k n (hide p) = []
  found_at k n (show_name x) = []
  found_at k n (hide_name x) = []

  -- the least complaint behind all visits
  abbrev pub passed : Known → ℕ → Option Complaint → List Visit → Option Complaint
  passed k n best [] = best
  passed k n best (v ∷ vs) = passed (known_behind k v) (open_after n v) (least_with best (found_at k n v)) vs
