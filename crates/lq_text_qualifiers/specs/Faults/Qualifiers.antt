-- What is wrong with qualifiers.
use Rattle.std.specs.Prelude.{ℕ, List, [], ◌∷◌, ◌++◌, Option, Some, None, unwrap_or}
use Rattle.lq_base_names.specs.declared.place.Place.{Place}
use Rattle.lq_text_walk.specs.Scoped.Signature.{DataTree}
use Rattle.lq_text_tree.specs.MeasureTrees.{MeasureTree}
use Rattle.lq_text_tree.specs.Qualifiers.{QualifierTree}
use Rattle.lq_text_qualifiers.specs.Faults.Complaints.{Complaint, at, unknown, bad_sort}
use Rattle.lq_text_qualifiers.specs.Faults.Datatypes.{shape_named}
use Rattle.lq_text_qualifiers.specs.Faults.Equations.{measures_in}
use Rattle.lq_text_qualifiers.specs.Faults.Lookups.{Lookup, one}
use Rattle.lq_text_qualifiers.specs.Faults.Predicates.{Measured, Setting, of_predicate}
use Rattle.lq_text_qualifiers.specs.Faults.Shapes.{Shape, int, bool, array, data_of, other}

-- the name of the shape of a qualifier's value
abbrev pub of_shape : Place → ℕ → Option Shape → List Complaint
of_shape p x None = at p (unknown x) ∷ []
of_shape p x (Some int) = []
of_shape p x (Some bool) = []
of_shape p x (Some array) = []
of_shape p x (Some (data_of d)) = []
of_shape p x (Some other) = at p bad_sort ∷ []

module _ (texts : List (List ℕ)) (ds : List DataTree) (known : Lookup Measured) where
  -- what is known in a qualifier: its value variable and the measures
  abbrev pub qualifier_setting : ℕ → Option Shape → Setting
  qualifier_setting v a = record { texts = texts; variables = one v (unwrap_or a other); measures = known; own = None }

  abbrev pub of_qualifier : QualifierTree → List Complaint
  of_qualifier q =
      of_shape q.shape_place q.shape (shape_named ds q.shape) ++ of_predicate (qualifier_setting q.value (shape_named ds q.shape)) (Some bool) q.predicate

  abbrev pub of_all : List QualifierTree → List Complaint
  of_all [] = []
  of_all (q ∷ qs) = of_qualifier q ++ of_all qs

-- all that is wrong with a text of qualifiers, where these datatypes and measures are defined
abbrev pub of_qualifiers : List (List ℕ) → List DataTree → List MeasureTree → List QualifierTree → List Complaint
of_qualifiers texts ds ms = of_all texts ds (measures_in ms)
