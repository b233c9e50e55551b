-- What trees and readings of the code are seen as.
use Rattle.std.proofs.Common.{◌≡◌, ℕ, Bool, List, [], ◌∷◌, ◌++◌, sym, subst, rules}
use Rattle.lq_prover_proof_tree.specs.Trees.Path.{Fact, Path, with_fact, taken}
use Rattle.lq_prover_proof_tree.specs.Trees.Proves.{Clashes}
use Rattle.lq_prover_proof_tree.specs.Trees.Tree.{absurdity, leaf}
use Rattle.lq_prover_proof_tree.specs.Trees.TreeView.{clash_of, tree_view}
use Rattle.lq_prover_proof_tree.specs.declared.trees.tree.CaseProof.{CaseProof}
use Rattle.lq_prover_proof_tree.specs.declared.trees.tree.ProofTree as ProofTree
use Rattle.lq_prover_proof_tree.specs.declared.trees.tree.ProofTree.{the_lemmas as tree_lemmas}
use Rattle.lq_logic_predicates.specs.TermView.{sum_of}
use Rattle.lq_logic_predicates.specs.declared.nnf.Nnf as Nnf
use Rattle.lq_logic_predicates.specs.declared.nnf.Nnf.{the_lemmas as nnf_lemmas}
use Rattle.lq_logic_predicates.specs.declared.symbol.Symbol.{Symbol}
use Rattle.lq_logic_predicates.specs.declared.term.Term.{Term}
use Rattle.lq_logic_predicates.specs.NnfView.{nnf_view}
use Rattle.lq_logic_predicates.specs.Reading.{Reading, row, flag_is, objects_are}
use Rattle.lq_logic_rows.specs.Row.{Row}
use Rattle.lq_prover_search.specs.Path.SearchPath.{IsLeafOf, by_facts}

pub leaf_seen : (c : CaseProof) → tree_view (ProofTree.Leaf c) ≡ leaf (clash_of c)
leaf_seen c = search (rules, tree_lemmas)

pub false_seen : (n : ℕ) → tree_view (ProofTree.False n) ≡ absurdity n
false_seen n = search (rules, tree_lemmas)

pub row_seen : (r : Row) → nnf_view (Nnf.Row r) ≡ row r
row_seen r = search (rules, nnf_lemmas)

pub flag_seen : (x : Symbol) (b : Bool) → nnf_view (Nnf.Flag x b) ≡ flag_is x b
flag_seen x b = search (rules, nnf_lemmas)

pub same_seen : (a b : Term) (one : Bool) → nnf_view (Nnf.Same a b one) ≡ objects_are (sum_of a) (sum_of b) one
same_seen a b one = search (rules, nnf_lemmas)

-- a clash of a path with one fact more
pub literal_leaf : (p : Path) (facts : List Fact) (f : Fact) (r : Reading Row) (c : CaseProof) → facts ≡ p.facts ++ f ∷ [] → taken p r ≡ with_fact p f → Clashes facts (clash_of c)
    → IsLeafOf (taken p r) (tree_view (ProofTree.Leaf c))
literal_leaf p facts f r c e w h =
    subst (IsLeafOf (taken p r)) (sym (leaf_seen c))
    (by_facts (clash_of c) (subst (λ (q : Path). Clashes q.facts (clash_of c)) (sym w) (subst (λ l. Clashes l (clash_of c)) e h)))
