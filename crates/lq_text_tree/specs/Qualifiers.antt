-- What qualifiers are, without the memory that holds them. A name is its number.
use Rattle.std.specs.Prelude.{ℕ, max, List, [], ◌∷◌, map}
use Rattle.lq_text_tree.specs.Levels.{pred_nesting}
use Rattle.lq_text_tree.specs.PredTree.{PredTree}
use Rattle.lq_text_tree.specs.PredView.{pred_view}
use Rattle.lq_base_names.specs.declared.place.Place.{Place}
use Rattle.lq_text_tree.specs.declared.quals.Qualifier.{Qualifier}

pub record QualifierTree : Type 0 where
  pub place : Place
  pub name : ℕ
  pub value : ℕ
  pub shape : ℕ
  pub shape_place : Place
  pub predicate : PredTree

abbrev pub qualifier_view : Qualifier → QualifierTree
qualifier_view q =
    record { place = q.place; name = q.name.0; value = q.value.0; shape = q.shape.0; shape_place = q.shape_place; predicate = pred_view q.predicate }

abbrev pub qualifiers_view : List Qualifier → List QualifierTree
qualifiers_view = map qualifier_view

-- the greatest number of steps that count, on a path of a predicate
abbrev pub qualifiers_nesting : List QualifierTree → ℕ
qualifiers_nesting [] = 0
qualifiers_nesting (q ∷ qs) = max (pred_nesting q.predicate) (qualifiers_nesting qs)
