-- What the three texts become: a program, measures and qualifiers with their names bound, or the first thing that is wrong with them.
use Rattle.std.specs.Prelude.{◌≡◌, ℕ, List, [], Some}
use Rattle.lq_text_tree.specs.Items.{ItemTree}
use Rattle.lq_text_tree.specs.MeasureTrees.{MeasureTree}
use Rattle.lq_text_tree.specs.Qualifiers.{QualifierTree}
use Rattle.lq_text_scope.specs.Complaints as program
use Rattle.lq_text_scope.specs.Uses.{of_program}
use Rattle.lq_text_walk.specs.Scoped.Scoping.{Scoping}
use Rattle.lq_text_datatypes.specs.Datatypes.{datatypes_in}
use Rattle.lq_text_resolve.specs.Resolution.Resolution.{scoping_of}
use Rattle.lq_text_qualifiers.specs.Faults.Complaints.{Complaint, least}
use Rattle.lq_text_qualifiers.specs.Faults.Equations.{of_measures}
use Rattle.lq_text_qualifiers.specs.Faults.Qualifiers.{of_qualifiers}
use Rattle.lq_text_qualifiers.specs.Sorting.Making.{measures_made, qualifiers_made}
use Rattle.lq_text_qualifiers.specs.Sorting.Sorted.{Measure, Qualifier}

-- the three texts as they are parsed, with the names of which they are made
pub record Sources : Type 0 where
  pub names : List (List ℕ)
  pub items : List ItemTree
  pub measures : List MeasureTree
  pub qualifiers : List QualifierTree

abbrev pub sources : List (List ℕ) → List ItemTree → List MeasureTree → List QualifierTree → Sources
sources names is ms qs = record { names = names; items = is; measures = ms; qualifiers = qs }

-- the three texts with their names bound
pub record Texts : Type 0 where
  pub program : Scoping
  pub measures : List Measure
  pub qualifiers : List Qualifier

abbrev pub texts : Scoping → List Measure → List Qualifier → Texts
texts s ms qs = record { program = s; measures = ms; qualifiers = qs }

abbrev pub texts_of : Sources → Texts
texts_of t =
    texts (scoping_of t.names t.items) (measures_made (datatypes_in t.items) t.measures) (qualifiers_made t.names t.measures t.qualifiers)

-- what is wrong with the measures, and with the qualifiers
abbrev pub measure_complaints : Sources → List Complaint
measure_complaints t = of_measures t.names (datatypes_in t.items) t.measures

abbrev pub qualifier_complaints : Sources → List Complaint
qualifier_complaints t = of_qualifiers t.names (datatypes_in t.items) t.measures t.qualifiers

-- the texts with their names bound, or the complaint that is told and the text that it is about
pub data Resolution : Type 0 where
  resolved : Texts → Resolution
  in_program : program.Complaint → Resolution
  in_measures : Complaint → Resolution
  in_qualifiers : Complaint → Resolution

-- The three texts are resolved where nothing is wrong with any of them. Else the program's least complaint counts before those of the
-- measures, and these before those of the qualifiers.
abbrev pub IsResolution : Sources → Resolution → Type 0
IsResolution t (resolved r) = (of_program t.names t.items ≡ []) × (measure_complaints t ≡ []) × (qualifier_complaints t ≡ []) × (r ≡ texts_of t)
IsResolution t (in_program c) = program.least (of_program t.names t.items) ≡ Some c
IsResolution t (in_measures c) = (of_program t.names t.items ≡ []) × (least (measure_complaints t) ≡ Some c)
IsResolution t (in_qualifiers c) = (of_program t.names t.items ≡ []) × (measure_complaints t ≡ []) × (least (qualifier_complaints t) ≡ Some c)

-- at most one
abbrev pub OneResolution : Type 0
OneResolution = (t : Sources) (a b : Resolution) → IsResolution t a → IsResolution t b → a ≡ b
