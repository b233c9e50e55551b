-- The leaves that those of the code stand for.
use Rattle.std.specs.Prelude.{ℕ, suc, ◌+◌, List, [], ◌∷◌, ◌++◌, map}
use Rattle.lq_logic_predicates.specs.Formula.{Formula, truth, falsity, flag, compare, objects, negation, conjunction, disjunction, equivalence}
use Rattle.lq_logic_predicates.specs.Literals.{Signs, positive, negative, both}
use Rattle.lq_logic_predicates.specs.PredView.{formula_of}
use Rattle.lq_prover_proof_tree.specs.Literals.Leaves as leaves
use Rattle.lq_prover_proof_tree.specs.Literals.Leaves.{leaves_of}
use Rattle.lq_prover_proof_tree.specs.declared.literals.leaf.Polarity.{Polarity}
use Rattle.lq_prover_proof_tree.specs.declared.literals.leaf.Polarity.TheVariants.{Positive, Negative, Both}
use Rattle.lq_prover_proof_tree.specs.declared.literals.leaf.Leaf.{Leaf}

abbrev pub signs_of : Polarity → Signs
signs_of Positive = positive
signs_of Negative = negative
signs_of Both = both

abbrev pub leaf_view : Leaf → leaves.Leaf
leaf_view l = leaves.leaf (signs_of l.polarity) (formula_of l.pred.now)

abbrev pub leaf_views : List Leaf → List leaves.Leaf
leaf_views = map leaf_view

-- the leaves of what waits, the last one first
abbrev pub waiting_leaves : List Leaf → List leaves.Leaf
waiting_leaves [] = []
waiting_leaves (l ∷ ls) = waiting_leaves ls ++ leaves_of (signs_of l.polarity) (formula_of l.pred.now)

-- how many connectives and leaves there are
abbrev pub size_of : Formula → ℕ
size_of truth = 1
size_of falsity = 1
size_of (flag x) = 1
size_of (compare o a b) = 1
size_of (objects a b) = 1
size_of (negation p) = suc (size_of p)
size_of (conjunction p q) = suc (size_of p + size_of q)
size_of (disjunction p q) = suc (size_of p + size_of q)
size_of (equivalence p q) = suc (size_of p + size_of q)

abbrev pub waiting_size : List Leaf → ℕ
waiting_size [] = 0
waiting_size (l ∷ ls) = waiting_size ls + size_of (formula_of l.pred.now)
