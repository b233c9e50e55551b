-- What is wrong with the names of a program: each complaint that there is, in the order of the text.
use Rattle.std.specs.Prelude.{ℕ, suc, Bool, true, false, List, [], ◌∷◌, ◌++◌, Option, Some, None, length, if◌then◌else◌, nat_lt}
use Rattle.lq_base_names.specs.declared.place.Place.{Place}
use Rattle.lq_text_tree.specs.declared.expr.Arguments.{Arguments}
use Rattle.lq_text_tree.specs.declared.expr.Arguments.TheVariants.{Apart, Listed}
use Rattle.lq_text_tree.specs.Items.{ItemTree, ItemForm, type_of, let_of, let_rec_of}
use Rattle.lq_text_tree.specs.Tree.{Tree, tree}
use Rattle.lq_text_walk.specs.Walk.Fold.{Arm, Algebra, fold}
use Rattle.lq_text_walk.specs.Walk.Shape as shape
use Rattle.lq_text_walk.specs.Walk.Shape.{Leaf, Row, Two, Shape, shape_of, listed}
use Rattle.lq_text_walk.specs.Walk.Visits.{is_let}
use Rattle.lq_text_scope.specs.Complaints.{Complaint, at, unknown, unknown_in}
use Rattle.lq_text_scope.specs.Datatypes.{of_datatype, with_datatype}
use Rattle.lq_text_scope.specs.Known.{Known, arity_in, counted, has, named, predeclared_known, primitive, primitive_in, text_of, under}
use Rattle.lq_text_scope.specs.Patterns.{of_pattern}

-- How many arguments the one part in a constructor's parentheses is, where the constructor wants so many: a tuple is one each for a
-- constructor that wants two or more.
abbrev pub as_arguments : ℕ → Shape → ℕ
as_arguments wanted (shape.row shape.tuple es) = if nat_lt 1 wanted then length es else 1
as_arguments wanted (shape.row (shape.build c w) es) = 1
as_arguments wanted (shape.row shape.list_of es) = 1
as_arguments wanted (shape.row shape.chain es) = 1
as_arguments wanted (shape.leaf h) = 1
as_arguments wanted (shape.one h a) = 1
as_arguments wanted (shape.two h a b) = 1
as_arguments wanted (shape.three h a b c) = 1
as_arguments wanted (shape.function p b) = 1
as_arguments wanted (shape.let_in p e b) = 1
as_arguments wanted (shape.let_rec f i q p e b) = 1
as_arguments wanted (shape.match_on e cs) = 1

abbrev pub shape_in : Tree → Shape
shape_in (tree i p f) = shape_of f

-- how many arguments a constructor is given that wants so many
abbrev pub given_to : ℕ → Arguments → List Tree → ℕ
given_to wanted Apart ts = length ts
given_to wanted Listed [] = 0
given_to wanted Listed (t ∷ ts) = as_arguments wanted (shape_in t)

abbrev pub of_build : Place → Option ℕ → ℕ → Arguments → List Tree → List Complaint
of_build p None c w ts = at p (unknown c) ∷ []
of_build p (Some wanted) c w ts = counted p (Some wanted) (unknown c) (given_to wanted w ts)

-- what a call hands to its first part, which is given this many arguments: one more; no other node hands any on
abbrev pub handed_on : Two → ℕ → ℕ
handed_on shape.call n = suc n
handed_on (shape.arithmetic o) n = 0
handed_on (shape.compare o) n = 0
handed_on shape.and_of n = 0
handed_on shape.or_of n = 0
handed_on shape.make n = 0
handed_on shape.fetch n = 0
handed_on shape.map_find n = 0

-- what is known, and how many arguments the node is given by the calls around it
abbrev pub Complaining : Type 0
Complaining = Known → ℕ → List Complaint

abbrev pub of_all : Known → List Complaining → List Complaint
of_all k [] = []
of_all k (c ∷ cs) = c k 0 ++ of_all k cs

abbrev pub of_arms : Known → List (Arm Complaining) → List Complaint
of_arms k [] = []
of_arms k (a ∷ as_) = of_pattern k.constructors a.pattern ++ (a.body (under a.pattern k) 0 ++ of_arms k as_)

-- the arms of a match; one that was written as a `let` has its pattern before what is matched
abbrev pub of_match : Bool → Known → List Complaint → List (Arm Complaining) → List Complaint
of_match false k e as_ = e ++ of_arms k as_
of_match true k e [] = e
of_match true k e (a ∷ as_) = of_pattern k.constructors a.pattern ++ (e ++ (a.body (under a.pattern k) 0 ++ of_arms k as_))

-- what is known behind an item
abbrev pub behind : Known → ItemForm → Known
behind k (type_of d) = with_datatype k d
behind k (let_of p e) = under p k
behind k (let_rec_of f r) = named f k

module _ (names : List (List ℕ)) where
  -- a variable is visible, or else a primitive with as many arguments as it takes
  abbrev pub of_leaf : Place → Leaf → Known → ℕ → List Complaint
  of_leaf p (shape.use_of x) k n = if has k.variables x then [] else counted p (primitive (text_of names x)) (unknown x) n
  of_leaf p (shape.qualified m x) k n = counted p (primitive_in (text_of names m) (text_of names x)) (unknown_in m x) n
  of_leaf p (shape.whole m) k n = []
  of_leaf p (shape.flag b) k n = []
  of_leaf p shape.unit k n = []
  of_leaf p shape.assert_false k n = []
  of_leaf p shape.map_empty k n = []

  -- the names of a node itself
  abbrev pub of_shape : Place → Shape → Known → ℕ → List Complaint
  of_shape p (shape.leaf h) k n = of_leaf p h k n
  of_shape p (shape.row (shape.build c w) ts) k n = of_build p (arity_in k.constructors c) c w ts
  of_shape p (shape.row shape.tuple ts) k n = []
  of_shape p (shape.row shape.list_of ts) k n = []
  of_shape p (shape.row shape.chain ts) k n = []
  of_shape p (shape.one h a) k n = []
  of_shape p (shape.two h a b) k n = []
  of_shape p (shape.three h a b c) k n = []
  of_shape p (shape.function q b) k n = []
  of_shape p (shape.let_in q e b) k n = []
  of_shape p (shape.let_rec f i r q e b) k n = []
  of_shape p (shape.match_on e cs) k n = []

  abbrev pub own : Tree → Known → ℕ → List Complaint
  own (tree i p f) k n = of_shape p (shape_of f) k n

  abbrev pub complaining : Algebra Complaining
  complaining = record {
    leaf = λ t h k n. own t k n;
    one = λ t h a k n. a k 0;
    two = λ t h a b k n. a k (handed_on h n) ++ b k 0;
    three = λ t h a b c k n. a k 0 ++ (b k 0 ++ c k 0);
    row = λ t h as_ k n. own t k n ++ of_all k as_;
    function = λ t p b k n. of_pattern k.constructors p ++ b (under p k) 0;
    let_in = λ t p e b k n. of_pattern k.constructors p ++ (e k 0 ++ b (under p k) 0);
    let_rec = λ t f i q p e b k n. of_pattern k.constructors p ++ (e (under p (named f k)) 0 ++ b (named f k) 0);
    match_on = λ t e as_ k n. of_match (is_let t) k (e k 0) as_;
  }

  -- the complaints about a tree
  abbrev pub complaints_of : Tree → Complaining
  complaints_of = fold complaining

  -- about an item
  abbrev pub of_item : Known → ItemForm → List Complaint
  of_item k (type_of d) = of_datatype k d
  of_item k (let_of p e) = of_pattern k.constructors p ++ complaints_of e k 0
  of_item k (let_rec_of f r) = of_pattern k.constructors r.parameter ++ complaints_of r.body (under r.parameter (named f k)) 0

  abbrev pub of_items : Known → List ItemTree → List Complaint
  of_items k [] = []
  of_items k (i ∷ is) = of_item k i.form ++ of_items (behind k i.form) is

  -- about a program
  abbrev pub of_program : List ItemTree → List Complaint
  of_program = of_items predeclared_known
