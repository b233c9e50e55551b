-- Programs in which each match has an arm.
use Rattle.std.specs.Prelude.{List, [], ◌∷◌}
use Rattle.lq_meaning_normal_form.specs.Types.Written.{Each, EachBody}
use Rattle.lq_text_tree.specs.Items.{ItemTree, ItemForm, type_of, let_of, let_rec_of}
use Rattle.lq_text_tree.specs.Tree.{Tree}
use Rattle.lq_text_walk.specs.Walk.Fold.{Arm, Algebra, fold}

-- arms, of which there is at least one
abbrev pub SomeArms : List (Arm (Type 0)) → Type 0
SomeArms [] = ⊥
SomeArms (a ∷ as_) = a.body × EachBody as_

abbrev pub arming : Algebra (Type 0)
arming = record {
  leaf = λ t h. Unit {0};
  one = λ t h a. a;
  two = λ t h a b. a × b;
  three = λ t h a b c. a × b × c;
  row = λ t h as_. Each as_;
  function = λ t q b. b;
  let_in = λ t q e b. e × b;
  let_rec = λ t f i p q e b. e × b;
  match_on = λ t e as_. e × SomeArms as_;
}

-- each match in the tree has one
abbrev pub HasArms : Tree → Type 0
HasArms = fold arming

abbrev pub ItemHasArms : ItemForm → Type 0
ItemHasArms (type_of d) = Unit {0}
ItemHasArms (let_of q e) = HasArms e
ItemHasArms (let_rec_of f r) = HasArms r.body

-- so has each match in the definitions of a program
abbrev pub HaveArms : List ItemTree → Type 0
HaveArms [] = Unit {0}
HaveArms (i ∷ is) = ItemHasArms i.form × HaveArms is
