-- What measures are, without the memory that holds them. A name is its number.
use Rattle.std.specs.Prelude.{ℕ, max, List, [], ◌∷◌, map}
use Rattle.lq_text_tree.specs.Levels.{pred_nesting}
use Rattle.lq_text_tree.specs.Pattern.{Pattern}
use Rattle.lq_text_tree.specs.PatternView.{pat_view}
use Rattle.lq_text_tree.specs.PredTree.{PredTree}
use Rattle.lq_text_tree.specs.PredView.{pred_view}
use Rattle.lq_text_tree.specs.declared.measures.Equation.{Equation}
use Rattle.lq_text_tree.specs.declared.measures.Measure.{Measure}
use Rattle.lq_base_names.specs.declared.name.Name.{Name}
use Rattle.lq_base_names.specs.declared.place.Place.{Place}

pub record EquationTree : Type 0 where
  pub pattern : Pattern
  pub term : PredTree

pub record MeasureTree : Type 0 where
  pub name : ℕ
  pub place : Place
  pub datatype : ℕ
  pub datatype_place : Place
  pub equations : List EquationTree

abbrev pub equation_view : Equation → EquationTree
equation_view e = record { pattern = pat_view Name (λ n. n.0) e.pattern; term = pred_view e.term }

abbrev pub measure_view : Measure → MeasureTree
measure_view m =
    record { name = m.name.0; place = m.place; datatype = m.datatype.0; datatype_place = m.datatype_place; equations = map equation_view m.equations.items }

abbrev pub definitions_view : List Measure → List MeasureTree
definitions_view = map measure_view

-- the greatest number of steps that count, on a path of a term
abbrev pub equations_nesting : List EquationTree → ℕ
equations_nesting [] = 0
equations_nesting (e ∷ es) = max (pred_nesting e.term) (equations_nesting es)

abbrev pub definitions_nesting : List MeasureTree → ℕ
definitions_nesting [] = 0
definitions_nesting (m ∷ ms) = max (equations_nesting m.equations) (definitions_nesting ms)
