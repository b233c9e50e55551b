-- Programs whose normal form the typing rules have: what is indexed is a variable or gets a name, and there are no maps.
use Rattle.std.specs.Prelude.{◌≡◌, true, List, [], ◌∷◌}
use Rattle.lq_text_tree.specs.Items.{ItemTree, ItemForm, type_of, let_of, let_rec_of}
use Rattle.lq_text_tree.specs.Pattern as p
use Rattle.lq_text_tree.specs.Pattern.{Pattern, pattern, PatternForm, Patterns}
use Rattle.lq_text_tree.specs.Tree as form
use Rattle.lq_text_tree.specs.Tree.{Tree, tree}
use Rattle.lq_text_walk.specs.Walk.Fold.{Arm, Algebra, fold}
use Rattle.lq_text_walk.specs.Walk.Shape as shape
use Rattle.lq_text_walk.specs.Walk.Shape.{Leaf}
use Rattle.lq_meaning_normal_form.specs.Outcomes.Naming.{stands, is_use}
use Rattle.lq_meaning_normal_form.specs.Types.Written.{HasPart, Takes, Each}

-- ---- patterns of arms: their parts are names or `_`

abbrev pub IsPartForm : PatternForm → Type 0
IsPartForm p.any = Unit {0}
IsPartForm (p.bind x) = Unit {0}
IsPartForm p.nothing = ⊥
IsPartForm (p.tuple_of qs) = ⊥
IsPartForm (p.build_of c l qs) = ⊥

abbrev pub IsPart : Pattern → Type 0
IsPart (pattern l f) = IsPartForm f

abbrev pub AreParts : Patterns → Type 0
AreParts p.no_patterns = Unit {0}
AreParts (p.more_patterns q qs) = IsPart q × AreParts qs

abbrev pub IsFlatForm : PatternForm → Type 0
IsFlatForm p.any = Unit {0}
IsFlatForm (p.bind x) = Unit {0}
IsFlatForm p.nothing = Unit {0}
IsFlatForm (p.tuple_of qs) = AreParts qs
IsFlatForm (p.build_of c l qs) = AreParts qs

abbrev pub IsFlat : Pattern → Type 0
IsFlat (pattern l f) = IsFlatForm f

-- ---- trees

abbrev pub LeafSuits : Leaf → Type 0
LeafSuits (shape.qualified m x) = ⊥
LeafSuits shape.map_empty = ⊥
LeafSuits _ = Unit {0}

-- an expression that is pure once its operands are is a variable
abbrev pub CanBeIndexed : Tree → Type 0
CanBeIndexed a = stands a ≡ true → is_use a ≡ true

abbrev pub NodeSuits : Tree → Type 0
NodeSuits (tree i l (form.fetch a n)) = CanBeIndexed a
NodeSuits (tree i l (form.store a n e)) = CanBeIndexed a
NodeSuits (tree i l (form.map_add a b c)) = ⊥
NodeSuits (tree i l (form.map_find a b)) = ⊥
NodeSuits t = Unit {0}

abbrev pub EachArmSuits : List (Arm (Type 0)) → Type 0
EachArmSuits [] = Unit {0}
EachArmSuits (a ∷ as_) = IsFlat a.pattern × a.body × EachArmSuits as_

abbrev pub being_suited : Algebra (Type 0)
being_suited = record {
  leaf = λ t h. LeafSuits h;
  one = λ t h a. NodeSuits t × a;
  two = λ t h a b. NodeSuits t × a × b;
  three = λ t h a b c. NodeSuits t × a × b × c;
  row = λ t h as_. HasPart h as_ × Each as_;
  function = λ t q b. Takes q × b;
  let_in = λ t q e b. Takes q × e × b;
  let_rec = λ t f i p q e b. Takes q × e × b;
  match_on = λ t e as_. e × EachArmSuits as_;
}

abbrev pub Suits : Tree → Type 0
Suits = fold being_suited

abbrev pub ItemSuits : ItemForm → Type 0
ItemSuits (type_of d) = Unit {0}
ItemSuits (let_of q e) = Takes q × Suits e
ItemSuits (let_rec_of f r) = Takes r.parameter × Suits r.body

abbrev pub ItemsSuit : List ItemTree → Type 0
ItemsSuit [] = Unit {0}
ItemsSuit (i ∷ is) = ItemSuits i.form × ItemsSuit is
