-- When normal trees obey the rules of types: a node has the type that an annotation gives to its number, and what a let binds and what
-- follows it have those of the last nodes inside. The let itself, whose number may be that of an operand, has none.
use Rattle.std.specs.Prelude.{◌≡◌, ℕ, List, [], ◌∷◌, ◌⊎◌}
use Rattle.lq_text_tree.specs.MlType as ml
use Rattle.lq_text_tree.specs.MlType.{MlType, MlTypes}
use Rattle.lq_text_tree.specs.Pattern.{Pattern}
use Rattle.lq_text_tree.specs.Tree.{Tree}
use Rattle.lq_text_tree.specs.Types.{Signature, Builds, Names, scheme_in, IsUsedAt}
use Rattle.lq_text_tree.specs.TypingRules.{Annotation, PatternIs}
use Rattle.lq_text_walk.specs.Walk.Fold.{Arm, Algebra, fold}
use Rattle.lq_text_walk.specs.Walk.Shape as shape
use Rattle.lq_text_walk.specs.Walk.Shape.{Leaf, One, Two, Three, Row}
use Rattle.lq_meaning_normal_form.specs.Outcomes.Naming.{id_of}

-- the type of a name's use is one at which it may be used
abbrev pub Uses : Type 1
Uses = ℕ → MlType → Type 0

-- The type that the annotation gives to the name, or one that the name's scheme allows.
abbrev pub used_by : Annotation → Names → Uses
used_by n ns x a = (a ≡ n.binders x) ⊎ IsUsedAt (scheme_in ns x) a

-- what the type of a node is to those of its parts; the node's own type stands last
abbrev pub LeafIs : Uses → Leaf → MlType → Type 0
LeafIs used (shape.whole m) a = a ≡ ml.int
LeafIs used (shape.flag b) a = a ≡ ml.bool
LeafIs used shape.unit a = a ≡ ml.unit
LeafIs used (shape.use_of x) a = used x a
LeafIs used (shape.qualified m x) a = ⊥
LeafIs used shape.assert_false a = Unit {0}
LeafIs used shape.map_empty a = ⊥

abbrev pub OneIs : One → MlType → MlType → Type 0
OneIs shape.negated e a = (e ≡ ml.int) × (a ≡ ml.int)
OneIs shape.not_of e a = (e ≡ ml.bool) × (a ≡ ml.bool)
OneIs shape.assert e a = (e ≡ ml.bool) × (a ≡ ml.unit)
OneIs shape.length_of e a = (element : MlType) × (e ≡ ml.array element) × (a ≡ ml.int)
OneIs shape.print e a = (e ≡ ml.int) × (a ≡ ml.unit)
OneIs shape.read e a = (e ≡ ml.unit) × (a ≡ ml.int)

abbrev pub TwoIs : Two → MlType → MlType → MlType → Type 0
TwoIs shape.call f e a = f ≡ ml.arrow e a
TwoIs (shape.arithmetic o) d e a = (d ≡ ml.int) × (e ≡ ml.int) × (a ≡ ml.int)
TwoIs (shape.compare o) d e a = (d ≡ ml.int) × (e ≡ ml.int) × (a ≡ ml.bool)
TwoIs shape.and_of d e a = (d ≡ ml.bool) × (e ≡ ml.bool) × (a ≡ ml.bool)
TwoIs shape.or_of d e a = (d ≡ ml.bool) × (e ≡ ml.bool) × (a ≡ ml.bool)
TwoIs shape.make d e a = (d ≡ ml.int) × (a ≡ ml.array e)
TwoIs shape.fetch d i a = (d ≡ ml.array a) × (i ≡ ml.int)
TwoIs shape.map_find k m a = ⊥

abbrev pub ThreeIs : Three → MlType → MlType → MlType → MlType → Type 0
ThreeIs shape.if_else c d e a = (c ≡ ml.bool) × (d ≡ a) × (e ≡ a)
ThreeIs shape.store d i e a = (d ≡ ml.array e) × (i ≡ ml.int) × (a ≡ ml.unit)
ThreeIs shape.map_add k e m a = ⊥

-- in a normal tree no list literal and no chain is left
abbrev pub RowIs : Signature → Row → MlTypes → MlType → Type 0
RowIs g shape.tuple ts a = a ≡ ml.tuple ts
RowIs g (shape.build c w) ts a = Builds g c ts a
RowIs g shape.list_of ts a = ⊥
RowIs g shape.chain ts a = ⊥

-- the type of what a tree comes to, and that the nodes in it obey the rules
pub record Typed : Type 1 where
  pub type : MlType
  pub obeys : Type 0

abbrev pub typed : MlType → Type 0 → Typed
typed a r = record { type = a; obeys = r }

abbrev pub row_types : List Typed → MlTypes
row_types [] = ml.no_types
row_types (t ∷ ts) = ml.more_types t.type (row_types ts)

abbrev pub EachObeys : List Typed → Type 0
EachObeys [] = Unit {0}
EachObeys (t ∷ ts) = t.obeys × EachObeys ts

module _ (g : Signature) (n : Annotation) (used : Uses) where
  -- a function of this parameter, whose body has the one type, has the other
  abbrev pub TakesAndGives : Pattern → MlType → MlType → Type 0
  TakesAndGives q b a = (from : MlType) × (a ≡ ml.arrow from b) × PatternIs g n q from

  -- arms for values of the one type give the other
  abbrev pub ArmsObey : List (Arm Typed) → MlType → MlType → Type 0
  ArmsObey [] from a = Unit {0}
  ArmsObey (c ∷ cs) from a = PatternIs g n c.pattern from × (c.body.type ≡ a) × c.body.obeys × ArmsObey cs from a

  abbrev pub own : Tree → MlType
  own t = n.nodes (id_of t)

  abbrev pub typing : Algebra Typed
  typing = record {
    leaf = λ t h. typed (own t) (LeafIs used h (own t));
    one = λ t h a. typed (own t) (OneIs h a.type (own t) × a.obeys);
    two = λ t h a b. typed (own t) (TwoIs h a.type b.type (own t) × a.obeys × b.obeys);
    three = λ t h a b c. typed (own t) (ThreeIs h a.type b.type c.type (own t) × a.obeys × b.obeys × c.obeys);
    row = λ t h as_. typed (own t) (RowIs g h (row_types as_) (own t) × EachObeys as_);
    function = λ t q b. typed (own t) (TakesAndGives q b.type (own t) × b.obeys);
    let_in = λ t q e b. typed b.type (PatternIs g n q e.type × e.obeys × b.obeys);
    let_rec = λ t f i p q e b. typed b.type ((n.nodes i ≡ n.binders f) × TakesAndGives q e.type (n.nodes i) × e.obeys × b.obeys);
    match_on = λ t e as_. typed (own t) (e.obeys × ArmsObey as_ e.type (own t));
  }

  abbrev pub typing_of : Tree → Typed
  typing_of = fold typing
