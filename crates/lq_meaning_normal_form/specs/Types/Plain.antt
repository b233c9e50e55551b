-- Trees whose binders are below a number, whose parameters are names, `_` or `()`, and each of whose chains has a part, as those of a
-- text whose names are bound.
use Rattle.std.specs.Prelude.{ℕ, ◌<◌, List, [], ◌∷◌}
use Rattle.lq_text_tree.specs.Items.{ItemTree, ItemForm, type_of, let_of, let_rec_of}
use Rattle.lq_text_tree.specs.Pattern.{bound_in}
use Rattle.lq_text_tree.specs.Tree.{Tree}
use Rattle.lq_text_walk.specs.Walk.Fold.{Arm, Algebra, fold}
use Rattle.lq_meaning_normal_form.specs.Types.Written.{HasPart, Takes, Each}

abbrev pub AreBelow : ℕ → List ℕ → Type 0
AreBelow m [] = Unit {0}
AreBelow m (x ∷ xs) = (x < m) × AreBelow m xs

abbrev pub EachArm : ℕ → List (Arm (Type 0)) → Type 0
EachArm m [] = Unit {0}
EachArm m (a ∷ as_) = AreBelow m (bound_in a.pattern) × a.body × EachArm m as_

-- parameters and the left sides of lets, and chains
abbrev pub being_plain : ℕ → Algebra (Type 0)
being_plain m = record {
  leaf = λ t h. Unit {0};
  one = λ t h a. a;
  two = λ t h a b. a × b;
  three = λ t h a b c. a × b × c;
  row = λ t h as_. HasPart h as_ × Each as_;
  function = λ t q b. Takes q × AreBelow m (bound_in q) × b;
  let_in = λ t q e b. Takes q × AreBelow m (bound_in q) × e × b;
  let_rec = λ t f i p q e b. Takes q × AreBelow m (f ∷ bound_in q) × e × b;
  match_on = λ t e as_. e × EachArm m as_;
}

abbrev pub IsPlain : ℕ → Tree → Type 0
IsPlain m = fold (being_plain m)

abbrev pub ItemIsPlain : ℕ → ItemForm → Type 0
ItemIsPlain m (type_of d) = Unit {0}
ItemIsPlain m (let_of q e) = AreBelow m (bound_in q) × IsPlain m e
ItemIsPlain m (let_rec_of f r) = Takes r.parameter × AreBelow m (f ∷ bound_in r.parameter) × IsPlain m r.body

abbrev pub ItemsArePlain : ℕ → List ItemTree → Type 0
ItemsArePlain m [] = Unit {0}
ItemsArePlain m (i ∷ is) = ItemIsPlain m i.form × ItemsArePlain m is
