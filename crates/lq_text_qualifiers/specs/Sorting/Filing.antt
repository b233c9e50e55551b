-- What tables hold of equations and of datatypes.
use Rattle.std.specs.Prelude.{ℕ, List, [], ◌∷◌, map}
use Rattle.lq_text_walk.specs.Scoped.Views.{constructor_view}
use Rattle.lq_text_tree.specs.MeasureTrees.{EquationTree, equation_view}
use Rattle.lq_text_qualifiers.specs.Sorting.Making.{constructor_name}
use Rattle.lq_text_qualifiers.specs.declared.sorting.constructors.Listed.{Listed}
use Rattle.lq_text_qualifiers.specs.declared.sorting.constructors.Listed.TheVariants as listed
use Rattle.lq_text_qualifiers.specs.declared.sorting.equations.FiledEquation.{FiledEquation}

abbrev pub filed_view : FiledEquation → EquationTree
filed_view f = equation_view f.equation.now

-- the names of constructors
abbrev pub listed_view : Listed → List ℕ
listed_view (listed.Written cs) = map constructor_name (map constructor_view cs.now)
listed_view listed.OfList = 7 ∷ 8 ∷ []
listed_view listed.OfOption = 9 ∷ 10 ∷ []
