-- Trees in which each use fits, and each match has a number other than 0.
use Rattle.std.proofs.Common.{◌≡◌, ℕ, List, [], ◌∷◌}
use Rattle.lq_text_tree.specs.Items.{ItemTree, ItemForm, type_of, let_of, let_rec_of}
use Rattle.lq_text_tree.specs.Tree.{Tree}
use Rattle.lq_text_walk.specs.Walk.Fold.{Algebra, fold}
use Rattle.lq_text_walk.specs.Walk.Shape as shape
use Rattle.lq_text_walk.specs.Walk.Shape.{Leaf}
use Rattle.lq_text_walk.specs.Scoped.Numbers.{number_of}
use Rattle.lq_meaning_normal_form.specs.Types.Written.{Each, EachBody}
use Rattle.lq_refined_templates.specs.Points.Annotation.{Annotation, arguments_at}
use Rattle.lq_sound_readiness.specs.Reading.Uses.{instance_by}

abbrev pub IsNumbered : ℕ → Type 0
IsNumbered i = i ≡ 0 → ⊥

abbrev pub LeafFits : Annotation → ℕ → Leaf → Type 0
LeafFits n i (shape.use_of x) = n.types i ≡ instance_by (arguments_at n i x) (n.names x)
LeafFits n i h = Unit {0}

abbrev pub fitting : Annotation → Algebra (Type 0)
fitting n = record {
  leaf = λ t h. LeafFits n (number_of t) h;
  one = λ t h a. a;
  two = λ t h a b. a × b;
  three = λ t h a b c. a × b × c;
  row = λ t h as_. Each as_;
  function = λ t q b. b;
  let_in = λ t q e b. e × b;
  let_rec = λ t f i p q e b. e × b;
  match_on = λ t e as_. IsNumbered (number_of t) × e × EachBody as_;
}

abbrev pub Fits : Annotation → Tree → Type 0
Fits n = fold (fitting n)

abbrev pub ItemFits : Annotation → ItemForm → Type 0
ItemFits n (type_of d) = Unit {0}
ItemFits n (let_of q e) = Fits n e
ItemFits n (let_rec_of f r) = Fits n r.body

abbrev pub ItemsFit : Annotation → List ItemTree → Type 0
ItemsFit n [] = Unit {0}
ItemsFit n (i ∷ is) = ItemFits n i.form × ItemsFit n is
