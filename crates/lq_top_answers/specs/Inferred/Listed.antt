-- Chosen instances, unknown by unknown.
use Rattle.std.specs.Prelude.{ℕ, suc, List, [], ◌∷◌}
use Rattle.lq_refined_types.specs.Parts.Flowing.{Selection, picked}
use Rattle.lq_logic_predicates.specs.Formula.{Formula}

-- those of the unknown of this number and of the ones behind it
abbrev pub picked_from : Selection → ℕ → List (List Formula) → List (List Formula)
picked_from c u [] = []
picked_from c u (l ∷ ls) = picked (c u) 0 l ∷ picked_from c (suc u) ls
