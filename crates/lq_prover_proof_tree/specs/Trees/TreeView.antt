-- The proof tree that one of the code stands for.
use Rattle.std.specs.Prelude.{ℕ, List, [], ◌∷◌, map}
use Rattle.lq_base_numbers.specs.Rationals.Rational.{ℚ}
use Rattle.lq_base_numbers.specs.Fractions.Value.{value_of}
use Rattle.lq_base_numbers.specs.declared.fractions.frac.Frac.{Frac}
use Rattle.lq_prover_proof_tree.specs.Trees.Tree.{Clash, rows, flags, merges, Tree, any, apart, equal, absurdity, leaf, Trees, none, more}
use Rattle.lq_prover_proof_tree.specs.declared.trees.tree.CaseProof.{CaseProof}
use Rattle.lq_prover_proof_tree.specs.declared.trees.tree.CaseProof.TheVariants.{Rows, Flags, Merges}
use Rattle.lq_prover_proof_tree.specs.declared.trees.tree.Multipliers.{Multipliers}
use Rattle.lq_prover_proof_tree.specs.declared.trees.tree.Tags.{Tags}
use Rattle.lq_prover_proof_tree.specs.declared.trees.tree.ProofTree.{ProofTree, fold-ProofTree}
use Rattle.lq_prover_proof_tree.specs.declared.trees.tree.Trees.{Trees as TreesOfCode, fold-Trees}
use Rattle.lq_prover_proof_tree.specs.declared.trees.tree.ProofTree.TheOpen.{ProofTree-F, Trees-F}

abbrev pub tag_items : Tags → List ℕ
tag_items tags = tags.items.items

-- the pairs of a number and a multiplier
abbrev pub multiplier_items : Multipliers → List (ℕ × Frac)
multiplier_items ms = ms.items.items

abbrev pub multiplier_views : List (ℕ × Frac) → List (ℕ × ℚ)
multiplier_views = map (λ m. (m.0, value_of m.1))

abbrev pub clash_of : CaseProof → Clash
clash_of (Rows ms) = rows (multiplier_views (multiplier_items ms))
clash_of (Flags t u) = flags t u
clash_of (Merges t tags) = merges t (tag_items tags)

abbrev pub trees_of : List Tree → Trees
trees_of [] = none
trees_of (t ∷ ts) = more t (trees_of ts)

-- one level, with each tree inside already seen
abbrev pub tree_step : ProofTree-F Tree Trees → Tree
tree_step (ProofTree-F.Any k ts) = any k ts
tree_step (ProofTree-F.Apart i j ts) = apart i j ts
tree_step (ProofTree-F.Equal i j tags t) = equal i j (tag_items tags) t.value
tree_step (ProofTree-F.False t) = absurdity t
tree_step (ProofTree-F.Leaf c) = leaf (clash_of c)

abbrev pub trees_step : Trees-F Tree Trees → Trees
trees_step ts = trees_of ts.items.items

abbrev pub tree_view : ProofTree → Tree
tree_view = fold-ProofTree Tree Trees tree_step trees_step

abbrev pub trees_view : TreesOfCode → Trees
trees_view = fold-Trees Tree Trees tree_step trees_step

-- the trees of a row
abbrev pub tree_items : TreesOfCode → List ProofTree
tree_items ts = ts.items.items
