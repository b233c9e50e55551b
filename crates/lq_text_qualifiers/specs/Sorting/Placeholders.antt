-- The placeholders of a predicate: each once, by its first use, and numbered in this order.
use Rattle.std.specs.Prelude.{ℕ, suc, List, [], ◌∷◌, map, Some, if◌then◌else◌}
use Rattle.lq_text_tree.specs.PredTree.{PredTree}
use Rattle.lq_text_qualifiers.specs.Faults.Lookups.{Names, no_names, with_name}
use Rattle.lq_text_qualifiers.specs.Faults.Predicates.{Setting, spots, uses}
use Rattle.lq_text_qualifiers.specs.Faults.Shapes.{Shape, bool}

-- the first of each name that isn't among these
abbrev pub firsts : Names → List (ℕ × Shape) → List (ℕ × Shape)
firsts before [] = []
firsts before (u ∷ us) = if before u.0 then firsts before us else u ∷ firsts (with_name u.0 before) us

-- the placeholders of a qualifier's predicate with the shapes that their first uses ask for
abbrev pub placeholders_in : Setting → PredTree → List (ℕ × Shape)
placeholders_in s t = firsts no_names (uses (spots s (Some bool) t))

-- their names with the numbers from here on
abbrev pub numbered : ℕ → List (ℕ × Shape) → List (ℕ × ℕ)
numbered n [] = []
numbered n (u ∷ us) = (u.0, n) ∷ numbered (suc n) us

abbrev pub shapes_of : List (ℕ × Shape) → List Shape
shapes_of = map (λ u. u.1)
