-- The rules of a program's types, visit by visit: a use of a generalised definition has the type of a copy of it.
use Rattle.std.specs.Prelude.{◌≡◌, ℕ, Bool, true, false, ◌&&◌, ◌==◌, ◌+◌, if◌then◌else◌, List, [], ◌∷◌, All, Option, Some, None}
use Rattle.lq_text_tree.specs.MlType as ml
use Rattle.lq_text_tree.specs.MlType.{MlType, MlTypes}
use Rattle.lq_text_tree.specs.Items.{ItemForm, type_of, let_of, let_rec_of}
use Rattle.lq_text_tree.specs.Pattern.{Pattern, pattern, any, bind, nothing, tuple_of, build_of}
use Rattle.lq_text_tree.specs.Tree.{Tree, tree}
use Rattle.lq_text_tree.specs.Types.{Signature, put}
use Rattle.lq_text_walk.specs.Walk.Fold.{Algebra, fold}
use Rattle.lq_text_walk.specs.Walk.Shape as shape
use Rattle.lq_text_walk.specs.Walk.Shape.{Leaf, Row, Shape, shape_of}
use Rattle.lq_text_walk.specs.Walk.Visits.{Visit, enter_item, leave_item, enter, leave, leave_function, declare, show, hide, show_name, hide_name}
use Rattle.lq_types_rules.specs.Equations.Gathered.{VisitRule}

-- ---- values

abbrev pub is_value_leaf : Leaf → Bool
is_value_leaf (shape.whole m) = true
is_value_leaf (shape.flag b) = true
is_value_leaf shape.unit = true
is_value_leaf (shape.use_of x) = true
is_value_leaf (shape.qualified m x) = false
is_value_leaf shape.assert_false = false
is_value_leaf shape.map_empty = false

abbrev pub is_value_row : Row → Bool
is_value_row shape.tuple = true
is_value_row (shape.build c w) = true
is_value_row shape.list_of = true
is_value_row shape.chain = false

abbrev pub all_values : List Bool → Bool
all_values [] = true
all_values (a ∷ as_) = a && all_values as_

abbrev pub valuing : Algebra Bool
valuing = record {
  leaf = λ t h. is_value_leaf h;
  one = λ t h a. false;
  two = λ t h a b. false;
  three = λ t h a b c. false;
  row = λ t h as_. is_value_row h && all_values as_;
  function = λ t p b. true;
  let_in = λ t p e b. false;
  let_rec = λ t f i q p e b. false;
  match_on = λ t e as_. false;
}

-- a syntactic value: a literal, a variable, a function, or a tuple, constructor or list literal of such
abbrev pub is_value : Tree → Bool
is_value = fold valuing

-- ---- what is known of definitions

-- a generalised definition, and the binders of those before it that aren't generalised
pub record General : Type 0 where
  pub binder : ℕ
  pub before : List ℕ

-- The definitions so far that have a name, the last one first: those that are generalised, and the binders of those that aren't.
pub record Known : Type 0 where
  pub general : List General
  pub plain : List ℕ

abbrev pub none_known : Known
none_known = record { general = []; plain = [] }

abbrev pub with_general : Known → ℕ → Known
with_general k x = record { general = record { binder = x; before = k.plain } ∷ k.general; plain = k.plain }

abbrev pub with_plain : Known → ℕ → Known
with_plain k x = record { general = k.general; plain = x ∷ k.plain }

-- behind the definition of a name, by a value or by another expression
abbrev pub with_name : Known → ℕ → Bool → Known
with_name k x true = with_general k x
with_name k x false = with_plain k x

abbrev pub behind_let : Known → Pattern → Bool → Known
behind_let k (pattern p any) value = k
behind_let k (pattern p (bind x)) value = with_name k x value
behind_let k (pattern p nothing) value = k
behind_let k (pattern p (tuple_of qs)) value = k
behind_let k (pattern p (build_of c m qs)) value = k

abbrev pub behind_form : Known → ItemForm → Known
behind_form k (type_of d) = k
behind_form k (let_of q e) = behind_let k q (is_value e)
behind_form k (let_rec_of f r) = with_general k f

-- what is known behind a visit: more where an item is left
abbrev pub behind : Known → Visit → Known
behind k (enter_item i) = k
behind k (leave_item i) = behind_form k i.form
behind k (enter t) = k
behind k (leave t) = k
behind k (leave_function r) = k
behind k (declare q) = k
behind k (show q) = k
behind k (hide q) = k
behind k (show_name x) = k
behind k (hide_name x) = k

abbrev pub behind_all : Known → List Visit → Known
behind_all k [] = k
behind_all k (v ∷ vs) = behind_all (behind k v) vs

-- what is known behind the visits from the first one on
abbrev pub known_at : List Visit → Known
known_at = behind_all none_known

-- ---- uses

-- the binders that aren't generalised before the generalised definition of the name
abbrev pub before_in : List General → ℕ → Option (List ℕ)
before_in [] x = None
before_in (d ∷ ds) x = if d.binder == x then Some d.before else before_in ds x

-- a use of a generalised definition: its node, the binder, and the binders that aren't generalised before the definition
pub record GeneralUse : Type 0 where
  pub node : ℕ
  pub binder : ℕ
  pub before : List ℕ

abbrev pub use_by : ℕ → ℕ → Option (List ℕ) → Option GeneralUse
use_by i x None = None
use_by i x (Some ps) = Some (record { node = i; binder = x; before = ps })

abbrev pub use_at_leaf : Known → ℕ → Leaf → Option GeneralUse
use_at_leaf k i (shape.use_of x) = use_by i x (before_in k.general x)
use_at_leaf k i (shape.whole m) = None
use_at_leaf k i (shape.flag b) = None
use_at_leaf k i shape.unit = None
use_at_leaf k i (shape.qualified m x) = None
use_at_leaf k i shape.assert_false = None
use_at_leaf k i shape.map_empty = None

abbrev pub use_at_shape : Known → ℕ → Shape → Option GeneralUse
use_at_shape k i (shape.leaf h) = use_at_leaf k i h
use_at_shape k i (shape.one h a) = None
use_at_shape k i (shape.two h a b) = None
use_at_shape k i (shape.three h a b c) = None
use_at_shape k i (shape.row h ts) = None
use_at_shape k i (shape.function p b) = None
use_at_shape k i (shape.let_in p e b) = None
use_at_shape k i (shape.let_rec f n q p e b) = None
use_at_shape k i (shape.match_on e as_) = None

abbrev pub use_at_tree : Known → Tree → Option GeneralUse
use_at_tree k (tree i p f) = use_at_shape k i (shape_of f)

-- the use of a generalised definition that is left here, if it is one
abbrev pub use_at : Known → Visit → Option GeneralUse
use_at k (enter_item i) = None
use_at k (leave_item i) = None
use_at k (enter t) = None
use_at k (leave t) = use_at_tree k t
use_at k (leave_function r) = None
use_at k (declare q) = None
use_at k (show q) = None
use_at k (hide q) = None
use_at k (show_name x) = None
use_at k (hide_name x) = None

-- ---- rules

-- what holds of each variable that stands in a type
abbrev mutual
  pub Each : (ℕ → Type 0) → MlType → Type 0
  Each P ml.int = Unit {0}
  Each P ml.bool = Unit {0}
  Each P ml.unit = Unit {0}
  Each P (ml.var i) = P i
  Each P (ml.arrow a b) = Each P a × Each P b
  Each P (ml.tuple ts) = EachIn P ts
  Each P (ml.array a) = Each P a
  Each P (ml.named d ts) = EachIn P ts
  Each P (ml.map_of a) = Each P a

  pub EachIn : (ℕ → Type 0) → MlTypes → Type 0
  EachIn P ml.no_types = Unit {0}
  EachIn P (ml.more_types t ts) = Each P t × EachIn P ts

-- what stands for each variable of the type is the variable
abbrev pub Leaves : (ℕ → MlType) → MlType → Type 0
Leaves by = Each (λ i. by i ≡ ml.var i)

-- The use's type is that of a copy: that of the definition, with other types for its variables, but not for those that stand in the type
-- of a definition before it that isn't generalised.
abbrev pub CopyRule : ℕ → GeneralUse → (ℕ → MlType) → Type 0
CopyRule nodes u types =
    (by : ℕ → MlType) × All (λ p. Leaves by (types (nodes + p))) u.before × (types u.node ≡ put by (types (nodes + u.binder)))

-- the rule of a visit that is this use of a generalised definition, or else the rule that is given
abbrev pub RuleBy : ℕ → Option GeneralUse → (ℕ → MlType) → Type 0 → Type 0
RuleBy nodes None types other = other
RuleBy nodes (Some u) types other = CopyRule nodes u types

-- the rule of what is left, where this is known
abbrev pub UseRule : Signature → ℕ → Known → Visit → (ℕ → MlType) → Type 0
UseRule g nodes k v types = RuleBy nodes (use_at k v) types (VisitRule g nodes v types)

-- each of the visits obeys its rule, where this is known before them
abbrev pub ObeysFrom : Signature → ℕ → Known → List Visit → (ℕ → MlType) → Type 0
ObeysFrom g nodes k [] types = Unit {0}
ObeysFrom g nodes k (v ∷ vs) types = UseRule g nodes k v types × ObeysFrom g nodes (behind k v) vs types

-- each visit of a program, from the first one on, obeys its rule
abbrev pub ObeysUses : Signature → ℕ → List Visit → (ℕ → MlType) → Type 0
ObeysUses g nodes visits types = ObeysFrom g nodes none_known visits types
