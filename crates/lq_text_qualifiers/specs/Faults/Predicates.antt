-- What is wrong with a predicate or a term: its subtrees in the order of the text, what the place of each asks for, and what the form or
-- the name of each gives.
use Rattle.std.specs.Prelude.{ℕ, Bool, true, false, ◌&&◌, nat_lt, codes, List, [], ◌∷◌, ◌++◌, Option, Some, None, if◌then◌else◌}
use Rattle.std.specs.Option.{is_some}
use Rattle.std.specs.Str.{bytes_eq}
use Rattle.lq_base_names.specs.declared.place.Place.{Place}
use Rattle.lq_text_scope.specs.Known.{text_of}
use Rattle.lq_text_tree.specs.PredTree.{PredTree, pred_tree, PredForm, flag, whole, use_of, placeholder, applied, qualified, arithmetic, negated, compare, not_of, and_of, or_of, iff}
use Rattle.lq_text_qualifiers.specs.Faults.Complaints.{Complaint, at, unknown, unknown_in, not_structural, bad_sort}
use Rattle.lq_text_qualifiers.specs.Faults.Lookups.{Lookup, first_in}
use Rattle.lq_text_qualifiers.specs.Faults.Shapes.{Shape, int, bool, array, data_of, is_same}

-- a measure: how many are defined before it, and the datatype that it takes
pub record Measured : Type 0 where
  pub number : ℕ
  pub datatype : ℕ

-- what is known where a predicate or a term stands
pub record Setting : Type 0 where
  -- the texts of names
  pub texts : List (List ℕ)
  -- the shapes of the variables
  pub variables : Lookup Shape
  pub measures : Lookup Measured
  -- the number of the measure whose equation it is; a qualifier has none
  pub own : Option ℕ

-- a subtree, and the shape that its place asks for; an argument of what has no definition may be anything
pub record Spot : Type 0 where
  pub asked : Option Shape
  pub tree : PredTree

abbrev pub spot : Option Shape → PredTree → Spot
spot a t = record { asked = a; tree = t }

-- what a measure asks of its argument
abbrev pub taken : Option Measured → Option Shape
taken None = None
taken (Some m) = Some (data_of m.datatype)

-- `Array.length`, the one name with a dot that has a definition
abbrev pub is_length : List (List ℕ) → ℕ → ℕ → Bool
is_length texts m x = bytes_eq (text_of texts m) (codes "Array") && bytes_eq (text_of texts x) (codes "length")

abbrev pub length_takes : Bool → Option Shape
length_takes true = Some array
length_takes false = None

module _ (s : Setting) where
  -- all subtrees, each before its parts and these from left to right
  abbrev mutual
    pub spots : Option Shape → PredTree → List Spot
    spots a (pred_tree p f) = spot a (pred_tree p f) ∷ spots_in f

    pub spots_in : PredForm → List Spot
    spots_in (flag b) = []
    spots_in (whole n) = []
    spots_in (use_of x) = []
    spots_in (placeholder x) = []
    spots_in (applied m e) = spots (taken (s.measures m)) e
    spots_in (qualified m x e) = spots (length_takes (is_length s.texts m x)) e
    spots_in (arithmetic o a b) = spots (Some int) a ++ spots (Some int) b
    spots_in (negated e) = spots (Some int) e
    spots_in (compare o a b) = spots (Some int) a ++ spots (Some int) b
    spots_in (not_of e) = spots (Some bool) e
    spots_in (and_of a b) = spots (Some bool) a ++ spots (Some bool) b
    spots_in (or_of a b) = spots (Some bool) a ++ spots (Some bool) b
    spots_in (iff a b) = spots (Some bool) a ++ spots (Some bool) b

-- a use of a placeholder whose place asks for a shape
abbrev pub used_as : ℕ → Option Shape → List (ℕ × Shape)
used_as x None = []
used_as x (Some a) = (x, a) ∷ []

abbrev pub used_in : Option Shape → PredForm → List (ℕ × Shape)
used_in a (placeholder x) = used_as x a
used_in a (flag b) = []
used_in a (whole n) = []
used_in a (use_of x) = []
used_in a (applied m e) = []
used_in a (qualified m x e) = []
used_in a (arithmetic o b c) = []
used_in a (negated e) = []
used_in a (compare o b c) = []
used_in a (not_of e) = []
used_in a (and_of b c) = []
used_in a (or_of b c) = []
used_in a (iff b c) = []

abbrev pub form_of : PredTree → PredForm
form_of (pred_tree p f) = f

abbrev pub place_of : PredTree → Place
place_of (pred_tree p f) = p

-- the uses of placeholders, in order
abbrev pub uses : List Spot → List (ℕ × Shape)
uses [] = []
uses (s ∷ ss) = used_in s.asked (form_of s.tree) ++ uses ss

-- what gives another shape than its place asks for
abbrev pub mismatch : Place → Option Shape → Shape → List Complaint
mismatch p None g = []
mismatch p (Some a) g = if is_same a g then [] else at p bad_sort ∷ []

-- a variable
abbrev pub of_variable : Place → Option Shape → ℕ → Option Shape → List Complaint
of_variable p a x None = at p (unknown x) ∷ []
of_variable p a x (Some g) = mismatch p a g

-- a placeholder has the shape that its first use asks for; in an equation there are none
abbrev pub of_placeholder : Option ℕ → Place → Option Shape → ℕ → Option Shape → List Complaint
of_placeholder None p a x None = []
of_placeholder None p a x (Some g) = mismatch p a g
of_placeholder (Some i) p a x g = at p (unknown x) ∷ []

-- a variable of the equation's pattern
abbrev pub is_field : Lookup Shape → PredForm → Bool
is_field fields (use_of x) = is_some (fields x)
is_field fields (flag b) = false
is_field fields (whole n) = false
is_field fields (placeholder x) = false
is_field fields (applied m e) = false
is_field fields (qualified m x e) = false
is_field fields (arithmetic o a b) = false
is_field fields (negated e) = false
is_field fields (compare o a b) = false
is_field fields (not_of e) = false
is_field fields (and_of a b) = false
is_field fields (or_of a b) = false
is_field fields (iff a b) = false

-- in an equation measures are applied to fields
abbrev pub of_argument : Lookup Shape → PredTree → List Complaint
of_argument fields (pred_tree p f) = if is_field fields f then [] else at p not_structural ∷ []

-- and no measure that is defined later
abbrev pub of_later : Place → ℕ → ℕ → List Complaint
of_later p own number = if nat_lt own number then at p not_structural ∷ [] else []

abbrev pub of_applied : Option ℕ → Lookup Shape → Place → PredTree → Measured → List Complaint
of_applied None fields p e m = []
of_applied (Some i) fields p e m = of_later p i m.number ++ of_argument fields e

-- a measure's name with an argument
abbrev pub of_measure : Setting → Place → ℕ → PredTree → Option Measured → List Complaint
of_measure s p x e None = at p (unknown x) ∷ []
of_measure s p x e (Some m) = of_applied s.own s.variables p e m

-- a name with a dot
abbrev pub of_qualified : Place → Option Shape → ℕ → ℕ → Bool → List Complaint
of_qualified p a m x true = mismatch p a int
of_qualified p a m x false = at p (unknown_in m x) ∷ []

-- what is wrong with a subtree itself, where placeholders have these shapes
abbrev pub of_form : Setting → Lookup Shape → Place → Option Shape → PredForm → List Complaint
of_form s shapes p a (flag b) = mismatch p a bool
of_form s shapes p a (whole n) = mismatch p a int
of_form s shapes p a (use_of x) = of_variable p a x (s.variables x)
of_form s shapes p a (placeholder x) = of_placeholder s.own p a x (shapes x)
of_form s shapes p a (applied m e) = of_measure s p m e (s.measures m) ++ mismatch p a int
of_form s shapes p a (qualified m x e) = of_qualified p a m x (is_length s.texts m x)
of_form s shapes p a (arithmetic o b c) = mismatch p a int
of_form s shapes p a (negated e) = mismatch p a int
of_form s shapes p a (compare o b c) = mismatch p a bool
of_form s shapes p a (not_of e) = mismatch p a bool
of_form s shapes p a (and_of b c) = mismatch p a bool
of_form s shapes p a (or_of b c) = mismatch p a bool
of_form s shapes p a (iff b c) = mismatch p a bool

abbrev pub of_spots : Setting → Lookup Shape → List Spot → List Complaint
of_spots s shapes [] = []
of_spots s shapes (x ∷ xs) = of_form s shapes (place_of x.tree) x.asked (form_of x.tree) ++ of_spots s shapes xs

-- a predicate or a term whose place asks for this shape
abbrev pub of_predicate : Setting → Option Shape → PredTree → List Complaint
of_predicate s a t = let all = spots s a t in of_spots s (first_in (uses all)) all
