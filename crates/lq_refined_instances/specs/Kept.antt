-- Instances that are found one after another.
use Rattle.std.specs.Prelude.{List, [], ◌∷◌, ◌++◌, if◌then◌else◌}
use Rattle.lq_logic_predicates.specs.Formula.{Formula}
use Rattle.lq_refined_instances.specs.Instances.{has_formula}

-- a list with an instance behind it, unless it is there
abbrev pub with_formula : List Formula → Formula → List Formula
with_formula ps p = if has_formula ps p then ps else ps ++ p ∷ []

abbrev pub kept : List Formula → List Formula → List Formula
kept ps [] = ps
kept ps (q ∷ qs) = kept (with_formula ps q) qs
