-- What the rules know of the constructors of a program.
use Rattle.std.specs.Prelude.{ℕ, ◌==◌, cond, List, [], ◌∷◌, ◌++◌, length}
use Rattle.lq_generate_fresh.specs.Fresh.Defined.{all_constructors, made_by}
use Rattle.lq_refined_measures.specs.Equations.Facts.{equations}
use Rattle.lq_logic_predicates.specs.Formula.{Formula}
use Rattle.lq_logic_predicates.specs.Sum.{var}
use Rattle.lq_logic_predicates.specs.declared.symbol.Symbol.TheVariants.{Value}
use Rattle.lq_sound_programs.specs.Scenes.Scenes.{positions_from}
use Rattle.lq_text_walk.specs.Scoped.Signature.{DataTree}
use Rattle.lq_text_qualifiers.specs.Sorting.Sorted.{Measure}
use Rattle.lq_text_tree.specs.Types.{Constructor, count_types}

-- the place of a constructor in the definition of its datatype, where these constructors stand before the others
abbrev pub place_among : List (ℕ × Constructor) → List (ℕ × Constructor) → ℕ → ℕ
place_among before [] c = 0
place_among before (k ∷ ks) c = cond (k.0 == c) (length (made_by k.1.datatype before)) (place_among (before ++ k ∷ []) ks c)

-- in a program that defines these datatypes, behind the predeclared ones
abbrev pub place_in : List DataTree → ℕ → ℕ
place_in ds c = place_among [] (all_constructors ds) c

-- the equations of measures at a value of a constructor at its place, of `v` for the value and of `#1`, `#2`, .. for its fields
abbrev pub equations_of : List Measure → ℕ × Constructor → ℕ → List Formula
equations_of ms k place = equations ms k.1.datatype place (positions_from 0 (count_types k.1.fields)) (var Value)

-- those of all constructors of a name
abbrev pub equations_among : List Measure → List (ℕ × Constructor) → List (ℕ × Constructor) → ℕ → List Formula
equations_among ms before [] c = []
equations_among ms before (k ∷ ks) c =
    cond (k.0 == c) (equations_of ms k (length (made_by k.1.datatype before))) [] ++ equations_among ms (before ++ k ∷ []) ks c
