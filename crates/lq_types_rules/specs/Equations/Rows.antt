-- The rule of a node, a case a shape: what the types of its parts and binders are to its own, by their numbers.
use Rattle.std.specs.Prelude.{◌≡◌, ℕ, ◌+◌, List, [], ◌∷◌, map}
use Rattle.lq_text_tree.specs.MlType as ml
use Rattle.lq_text_tree.specs.MlType.{MlType, MlTypes}
use Rattle.lq_text_tree.specs.Pattern.{Pattern}
use Rattle.lq_text_tree.specs.Tree.{Tree, tree, Form, use_of}
use Rattle.lq_text_tree.specs.Items.{ItemForm, type_of, let_of, let_rec_of}
use Rattle.lq_text_tree.specs.TreeView.{Case, Recursive}
use Rattle.lq_text_tree.specs.Types.{Signature, Names, plain, Builds, Lists}
use Rattle.lq_text_tree.specs.TypingRules.{Annotation, type_in, PatternIs, FunctionIs, RuleIs, ItemPatternIs}
use Rattle.lq_text_walk.specs.Walk.Shape as shape
use Rattle.lq_text_walk.specs.Walk.Shape.{Leaf, One, Two, Three, Row, Shape}
use Rattle.lq_types_rules.specs.Equations.Solutions.{each}

-- the annotation that is read from types of nodes: those of the program's nodes come first, and behind them those of its binders
abbrev pub annotation_of : ℕ → (ℕ → MlType) → Annotation
annotation_of nodes types = record { nodes = types; binders = λ x. types (nodes + x) }

abbrev pub number_of : Tree → ℕ
number_of (tree i p f) = i

abbrev pub LeafIs : ℕ → Leaf → ℕ → (ℕ → MlType) → Type 0
LeafIs nodes (shape.whole n) at t = t at ≡ ml.int
LeafIs nodes (shape.flag b) at t = t at ≡ ml.bool
LeafIs nodes shape.unit at t = t at ≡ ml.unit
LeafIs nodes (shape.use_of x) at t = t at ≡ t (nodes + x)
LeafIs nodes (shape.qualified m x) at t = ⊥
LeafIs nodes shape.assert_false at t = Unit {0}
LeafIs nodes shape.map_empty at t = ⊥

abbrev pub OneIs : One → ℕ → ℕ → (ℕ → MlType) → Type 0
OneIs shape.negated a at t = (t a ≡ ml.int) × (t at ≡ ml.int)
OneIs shape.not_of a at t = (t a ≡ ml.bool) × (t at ≡ ml.bool)
OneIs shape.assert a at t = (t a ≡ ml.bool) × (t at ≡ ml.unit)
OneIs shape.length_of a at t = (element : MlType) × (t a ≡ ml.array element) × (t at ≡ ml.int)
OneIs shape.print a at t = (t a ≡ ml.int) × (t at ≡ ml.unit)
OneIs shape.read a at t = (t a ≡ ml.unit) × (t at ≡ ml.int)

abbrev pub TwoIs : Two → ℕ → ℕ → ℕ → (ℕ → MlType) → Type 0
TwoIs shape.call a b at t = t a ≡ ml.arrow (t b) (t at)
TwoIs (shape.arithmetic o) a b at t = (t a ≡ ml.int) × (t b ≡ ml.int) × (t at ≡ ml.int)
TwoIs (shape.compare o) a b at t = (t a ≡ ml.int) × (t b ≡ ml.int) × (t at ≡ ml.bool)
TwoIs shape.and_of a b at t = (t a ≡ ml.bool) × (t b ≡ ml.bool) × (t at ≡ ml.bool)
TwoIs shape.or_of a b at t = (t a ≡ ml.bool) × (t b ≡ ml.bool) × (t at ≡ ml.bool)
TwoIs shape.make a b at t = (t a ≡ ml.int) × (t at ≡ ml.array (t b))
TwoIs shape.fetch a b at t = (t a ≡ ml.array (t at)) × (t b ≡ ml.int)
TwoIs shape.map_find a b at t = ⊥

abbrev pub ThreeIs : Three → ℕ → ℕ → ℕ → ℕ → (ℕ → MlType) → Type 0
ThreeIs shape.if_else a b c at t = (t a ≡ ml.bool) × (t b ≡ t at) × (t c ≡ t at)
ThreeIs shape.store a b c at t = (t a ≡ ml.array (t c)) × (t b ≡ ml.int) × (t at ≡ ml.unit)
ThreeIs shape.map_add a b c at t = ⊥

-- the last of a chain, of which this is the first
abbrev pub last_of : ℕ → List ℕ → ℕ
last_of a [] = a
last_of a (b ∷ bs) = last_of b bs

abbrev pub ChainIs : List ℕ → ℕ → (ℕ → MlType) → Type 0
ChainIs [] at t = t at ≡ ml.unit
ChainIs (a ∷ as_) at t = t at ≡ t (last_of a as_)

abbrev pub RowIs : Signature → Row → List ℕ → ℕ → (ℕ → MlType) → Type 0
RowIs g shape.tuple as_ at t = t at ≡ ml.tuple (each t as_)
RowIs g (shape.build c w) as_ at t = Builds g c (each t as_) (t at)
RowIs g shape.list_of as_ at t = Lists (each t as_) (t at)
RowIs g shape.chain as_ at t = ChainIs as_ at t

-- each pattern is for values of the type of the node beside it
abbrev pub PatternsFit : Signature → ℕ → List Pattern → List ℕ → (ℕ → MlType) → Type 0
PatternsFit g nodes [] [] t = Unit {0}
PatternsFit g nodes [] (r ∷ rs) t = ⊥
PatternsFit g nodes (q ∷ qs) [] t = ⊥
PatternsFit g nodes (q ∷ qs) (r ∷ rs) t = PatternIs g (annotation_of nodes t) q (t r) × PatternsFit g nodes qs rs t

-- a function of this parameter and body
abbrev pub FunIs : Signature → ℕ → Pattern → ℕ → ℕ → (ℕ → MlType) → Type 0
FunIs g nodes q b at t = (from : MlType) × (t at ≡ ml.arrow from (t b)) × PatternIs g (annotation_of nodes t) q from

abbrev pub LetIs : Signature → ℕ → Pattern → ℕ → ℕ → ℕ → (ℕ → MlType) → Type 0
LetIs g nodes q e b at t = (t at ≡ t b) × PatternIs g (annotation_of nodes t) q (t e)

abbrev pub ArmsFit : Signature → ℕ → List Case → ℕ → ℕ → (ℕ → MlType) → Type 0
ArmsFit g nodes [] e at t = Unit {0}
ArmsFit g nodes (a ∷ as_) e at t = PatternIs g (annotation_of nodes t) a.pattern (t e) × (t (number_of a.body) ≡ t at) × ArmsFit g nodes as_ e at t

-- the rule of a node of this shape, with its number
abbrev pub ShapeIs : Signature → ℕ → Shape → ℕ → (ℕ → MlType) → Type 0
ShapeIs g nodes (shape.leaf h) at t = LeafIs nodes h at t
ShapeIs g nodes (shape.one h a) at t = OneIs h (number_of a) at t
ShapeIs g nodes (shape.two h a b) at t = TwoIs h (number_of a) (number_of b) at t
ShapeIs g nodes (shape.three h a b c) at t = ThreeIs h (number_of a) (number_of b) (number_of c) at t
ShapeIs g nodes (shape.row h ts) at t = RowIs g h (map number_of ts) at t
ShapeIs g nodes (shape.function p b) at t = FunIs g nodes p (number_of b) at t
ShapeIs g nodes (shape.let_in p e b) at t = LetIs g nodes p (number_of e) (number_of b) at t
ShapeIs g nodes (shape.let_rec f i q p e b) at t = (t at ≡ t (number_of b)) × (t i ≡ t (nodes + f))
ShapeIs g nodes (shape.match_on e as_) at t = ArmsFit g nodes as_ (number_of e) at t

-- a variable is used at its binder's type
abbrev pub own_names : Annotation → Form → Names
own_names n (use_of x) = (x, plain (n.binders x)) ∷ []
own_names n f = []

-- the rule of the node with this number and form
abbrev pub NodeIs : Signature → ℕ → ℕ → Form → (ℕ → MlType) → Type 0
NodeIs g nodes at f t = RuleIs g (annotation_of nodes t) (own_names (annotation_of nodes t) f) f (t at)

-- the rule of a node, of the function of a recursive definition, and of an item itself
abbrev pub TreeRule : Signature → ℕ → Tree → (ℕ → MlType) → Type 0
TreeRule g nodes (tree i p f) t = NodeIs g nodes i f t

abbrev pub FunctionRule : Signature → ℕ → Recursive → (ℕ → MlType) → Type 0
FunctionRule g nodes r t = FunctionIs g (annotation_of nodes t) r.parameter r.body (t r.id)

abbrev pub ItemRule : ℕ → ItemForm → (ℕ → MlType) → Type 0
ItemRule nodes (type_of d) t = Unit {0}
ItemRule nodes (let_of q e) t = ItemPatternIs (annotation_of nodes t) q (type_in (annotation_of nodes t) e)
ItemRule nodes (let_rec_of f r) t = t r.id ≡ t (nodes + f)
