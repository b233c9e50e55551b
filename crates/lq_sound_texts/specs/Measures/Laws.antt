-- The measures of a text with which nothing is wrong, and what follows for a program over its datatypes.
use Rattle.std.specs.Prelude.{◌≡◌, ℕ, List, []}
use Rattle.lq_refined_rules.specs.Checks.Basis.{Basis}
use Rattle.lq_generate_datatypes.specs.Equations.{place_in}
use Rattle.lq_generate_fresh.specs.Fresh.Defined.{ordered_in}
use Rattle.lq_sound_programs.specs.Safety.Scoped.{ListsConstructors}
use Rattle.lq_sound_scope.specs.Scalars.Data.{AreEquationsSorted}
use Rattle.lq_sound_programs.specs.Scenes.Scenes.{HasMeasures, equations_at}
use Rattle.lq_text_walk.specs.Scoped.Signature.{DataTree, signature_in}
use Rattle.lq_text_qualifiers.specs.Sorting.Making.{measures_made}
use Rattle.lq_text_qualifiers.specs.Sorting.Sorted.{Measure}
use Rattle.lq_text_qualifiers.specs.Faults.Equations.{of_measures}
use Rattle.lq_text_tree.specs.MeasureTrees.{MeasureTree}
use Rattle.lq_sound_scope.specs.Sorts.Equations.{AreEquationsWellSorted}

-- what is made of the measures of a text of which nothing is complained, where these datatypes are defined
pub record AreMeasuresOf (ds : List DataTree) (ms : List Measure) : Type 0 where
  pub names : List (List ℕ)
  pub trees : List MeasureTree
  pub none : of_measures names ds trees ≡ []
  pub made : ms ≡ measures_made ds trees

-- a program is checked over the predeclared datatypes and these, with the equations of these measures
pub record IsOver (P : Basis) (ds : List DataTree) (ms : List Measure) : Type 0 where
  pub constructors : (c : ℕ) → P.setting.constructors c ≡ signature_in ds c
  pub ordered : (d : ℕ) → P.constructors_of d ≡ ordered_in ds d
  pub equations : (c : ℕ) → P.equations c ≡ equations_at ms (place_in ds) c (signature_in ds c)

-- Its measures have different names and ask of no field past the last one, its equations speak of v and of fields at their sorts, and all
-- constructors are listed.
abbrev pub TextMeasuresFit : Type 0
TextMeasuresFit =
    (P : Basis) (ds : List DataTree) (ms : List Measure) → IsOver P ds ms → AreMeasuresOf ds ms
    → HasMeasures P ms (place_in ds) × AreEquationsSorted P × ListsConstructors P

-- Its equations are well sorted: they measure v, an object, and speak of each field at its kind.
abbrev pub TextMeasuresAreSorted : Type 0
TextMeasuresAreSorted = (P : Basis) (ds : List DataTree) (ms : List Measure) → IsOver P ds ms → AreMeasuresOf ds ms → AreEquationsWellSorted P
