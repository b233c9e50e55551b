-- Trees as texts have them: each chain has a part, and a let binds a name, `_` or `()`, since one with a tuple on its left is a match.
use Rattle.std.specs.Prelude.{◌≡◌, true, List, [], ◌∷◌}
use Rattle.lq_text_tree.specs.Items.{ItemTree, ItemForm, type_of, let_of, let_rec_of}
use Rattle.lq_text_tree.specs.Pattern.{Pattern}
use Rattle.lq_text_tree.specs.Tree.{Tree}
use Rattle.lq_text_walk.specs.Scoped.Uses.{is_parameter}
use Rattle.lq_text_walk.specs.Walk.Fold.{Arm, Algebra, fold}
use Rattle.lq_text_walk.specs.Walk.Shape as shape
use Rattle.lq_text_walk.specs.Walk.Shape.{Row}

-- a chain has a part
abbrev pub HasPart : Row → List (Type 0) → Type 0
HasPart shape.chain [] = ⊥
HasPart shape.chain (a ∷ as_) = Unit {0}
HasPart shape.tuple as_ = Unit {0}
HasPart (shape.build c w) as_ = Unit {0}
HasPart shape.list_of as_ = Unit {0}

-- a name, `_` or `()`
abbrev pub Takes : Pattern → Type 0
Takes q = is_parameter q ≡ true

abbrev pub Each : List (Type 0) → Type 0
Each [] = Unit {0}
Each (a ∷ as_) = a × Each as_

abbrev pub EachBody : List (Arm (Type 0)) → Type 0
EachBody [] = Unit {0}
EachBody (a ∷ as_) = a.body × EachBody as_

abbrev pub being_written : Algebra (Type 0)
being_written = record {
  leaf = λ t h. Unit {0};
  one = λ t h a. a;
  two = λ t h a b. a × b;
  three = λ t h a b c. a × b × c;
  row = λ t h as_. HasPart h as_ × Each as_;
  function = λ t q b. b;
  let_in = λ t q e b. Takes q × e × b;
  let_rec = λ t f i p q e b. e × b;
  match_on = λ t e as_. e × EachBody as_;
}

-- a text has such a tree
abbrev pub IsWritten : Tree → Type 0
IsWritten = fold being_written

-- an item with such a tree; none defines a datatype
abbrev pub ItemIsWritten : ItemForm → Type 0
ItemIsWritten (type_of d) = ⊥
ItemIsWritten (let_of q e) = IsWritten e
ItemIsWritten (let_rec_of f r) = IsWritten r.body

abbrev pub ItemsAreWritten : List ItemTree → Type 0
ItemsAreWritten [] = Unit {0}
ItemsAreWritten (i ∷ is) = ItemIsWritten i.form × ItemsAreWritten is
