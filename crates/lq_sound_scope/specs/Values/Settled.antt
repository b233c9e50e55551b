-- When the definitions of a program are settled: values, or of a type without variables.
use Rattle.std.specs.Prelude.{List, [], ◌∷◌}
use Rattle.lq_refined_templates.specs.Points.Annotation.{Annotation}
use Rattle.lq_sound_scope.specs.Scalars.Scalar.{IsSettled}
use Rattle.lq_text_tree.specs.Items.{ItemTree, ItemForm, type_of, let_of, let_rec_of}

module _ (n : Annotation) where
  abbrev pub ItemIsSettled : ItemForm → Type 0
  ItemIsSettled (type_of d) = Unit {0}
  ItemIsSettled (let_of q e) = IsSettled n q e
  ItemIsSettled (let_rec_of f r) = Unit {0}

  -- each definition in normal form is
  abbrev pub AreSettled : List ItemTree → Type 0
  AreSettled [] = Unit {0}
  AreSettled (i ∷ is) = ItemIsSettled i.form × AreSettled is
