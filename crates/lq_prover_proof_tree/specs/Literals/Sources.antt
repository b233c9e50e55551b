-- The literals of an implication by the predicates they come from.
use Rattle.std.specs.Prelude.{List, [], ◌∷◌, ◌++◌, if◌then◌else◌, map}
use Rattle.lq_base_names.specs.declared.operation.CompareOp.TheVariants as op
use Rattle.lq_logic_predicates.specs.Comparison.{Comparison}
use Rattle.lq_logic_predicates.specs.ClosedImplication.{ClosedImplication, terms_in}
use Rattle.lq_logic_predicates.specs.Formula.{Formula, compare}
use Rattle.lq_logic_predicates.specs.Literals.{literals_of, all_pairs}
use Rattle.lq_prover_proof_tree.specs.Literals.Leaves.{Leaf, leaves_in}

-- a predicate and its literals
pub record Source : Type 0 where
  pub formula : Formula
  pub literals : List Comparison

-- of a leaf, with both signs where it stands under an equivalence
abbrev pub leaf_source : Leaf → Source
leaf_source l = record { formula = l.formula; literals = literals_of l.signs l.formula }

-- a row of the condition on two applications says `a = b`, or `a < b` where a gets the 1
abbrev pub row_formula : Comparison → Formula
row_formula c = compare (if c.equal then op.Eq else op.Lt) c.left c.right

abbrev pub row_source : Comparison → Source
row_source c = record { formula = row_formula c; literals = c ∷ [] }

-- the leaves in order, and then the rows for each two applications of one function, pair by pair
abbrev pub sources_of : ClosedImplication → List Source
sources_of i = map leaf_source (leaves_in i) ++ map row_source (all_pairs (terms_in i))

-- the literals of all of them
abbrev pub literals_in : List Source → List Comparison
literals_in [] = []
literals_in (s ∷ ss) = s.literals ++ literals_in ss
