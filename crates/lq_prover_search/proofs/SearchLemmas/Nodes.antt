-- Trees of paths and of the members of a split.
use Rattle.std.proofs.Common.{◌≡◌, ℕ, suc, ◌+◌, ◌<◌, List, [], ◌∷◌, ◌++◌, Some, length, map, take, get_or, slice_get, refl, sym, ap, subst, ◌∙◌, arith, rules}
use Rattle.std.proofs.lemmas.List.{map-append, take_more}
use Rattle.lq_prover_proof_tree.specs.Trees.Path.{Path, taken}
use Rattle.lq_prover_proof_tree.specs.Trees.Proves.{Numbering, Proves, ProvesEach, by_absurdity, by_any, by_clash, each_more, each_none}
use Rattle.lq_prover_proof_tree.specs.Trees.Tree as tree
use Rattle.lq_prover_proof_tree.specs.Trees.Tree.{Clash, Tree, Trees, any, apart, leaf}
use Rattle.lq_prover_proof_tree.specs.Trees.TreeView.{clash_of, tree_items, tree_view, trees_of, trees_view}
use Rattle.lq_prover_proof_tree.specs.declared.trees.tree.CaseProof.{CaseProof}
use Rattle.lq_prover_proof_tree.specs.declared.trees.tree.ProofTree as ProofTree
use Rattle.lq_prover_proof_tree.specs.declared.trees.tree.ProofTree.{the_lemmas as tree_lemmas}
use Rattle.lq_prover_proof_tree.specs.declared.trees.tree.Trees.{Trees as TreesOfCode}
use Rattle.lq_logic_rows.specs.Row.{Row}
use Rattle.lq_prover_search.specs.Path.SearchPath.{IsLeafOf, by_facts, by_never}
use Rattle.lq_prover_search.proofs.PathLemmas.Readings.{row_of}
use Rattle.lq_logic_predicates.specs.NnfView.{nnf_view}
use Rattle.lq_logic_predicates.specs.Reading.{Reading, Readings, none, more}
use Rattle.lq_logic_predicates.specs.declared.nnf.Nnf.{Nnf}
use Rattle.lq_prover_search.proofs.PruningLemmas.Items.{view_items}

pub leaf_proves : (n : Numbering) (p : Path) (t : Tree) → IsLeafOf p t → Proves n p t
leaf_proves n p _ (by_never t e) = by_absurdity p t e
leaf_proves n p _ (by_facts c h) = by_clash p c h

pub any_seen : (k : ℕ) (trees : TreesOfCode) → tree_view (ProofTree.Any k trees) ≡ any k (trees_view trees)
any_seen k trees = search (rules, tree_lemmas)

pub leaf_seen : (c : CaseProof) → tree_view (ProofTree.Leaf c) ≡ leaf (clash_of c)
leaf_seen c = search (rules, tree_lemmas)

pub any_proves : (n : Numbering) (p : Path) (at : ℕ) (members : Readings Row) (trees : TreesOfCode) → slice_get p.choices at ≡ Some members → ProvesEach n p members (trees_view trees)
    → Proves n p (tree_view (ProofTree.Any (at + 1) trees))
any_proves n p at members trees e h =
    let next : at + 1 ≡ suc at = omega arith in
    subst (Proves n p) (sym (any_seen (at + 1) trees ∙ ap (λ k. any k (trees_view trees)) next)) (by_any p (suc at) members (trees_view trees) e h)

-- ---- one more member

abbrev last_reading : Readings Row → Reading Row → Readings Row
last_reading none r = more r none
last_reading (more x xs) r = more x (last_reading xs r)

abbrev last_tree : Trees → Tree → Trees
last_tree tree.none t = tree.more t tree.none
last_tree (tree.more u us) t = tree.more u (last_tree us t)

each_push : (n : Numbering) (p : Path) (rs : Readings Row) (trees : Trees) (r : Reading Row) (t : Tree) → ProvesEach n p rs trees → Proves n (taken p r) t
    → ProvesEach n p (last_reading rs r) (last_tree trees t)
each_push n p _ _ r t (each_none _) h = each_more p r none t tree.none h (each_none p)
each_push n p _ _ r t (each_more _ x xs u us a b) h = each_more p x (last_reading xs r) u (last_tree us t) a (each_push n p xs us r t b h)

reading_pushed : (xs : List Nnf) (x : Nnf) → row_of (xs ++ x ∷ []) ≡ last_reading (row_of xs) (nnf_view x)
reading_pushed [] x = refl
reading_pushed (y ∷ xs) x = ap (more (nnf_view y)) (reading_pushed xs x)

tree_pushed : (ts : List Tree) (t : Tree) → trees_of (ts ++ t ∷ []) ≡ last_tree (trees_of ts) t
tree_pushed [] t = refl
tree_pushed (u ∷ ts) t = ap (tree.more u) (tree_pushed ts t)

pub no_trees : (n : Numbering) (p : Path) (trees : TreesOfCode) → tree_items trees ≡ [] → ProvesEach n p none (trees_view trees)
no_trees n p trees e = subst (ProvesEach n p none) (sym (view_items trees ∙ ap (λ l. trees_of (map tree_view l)) e)) (each_none p)

pub one_more : (n : Numbering) (p : Path) (items : List Nnf) (i : ℕ) (member : Nnf) (old new : TreesOfCode) (t : ProofTree.ProofTree) → i < length items → member ≡ get_or items i member
    → tree_items new ≡ tree_items old ++ t ∷ [] → ProvesEach n p (row_of (take i items)) (trees_view old) → Proves n (taken p (nnf_view member)) (tree_view t)
    → ProvesEach n p (row_of (take (i + 1) items)) (trees_view new)
one_more n p items i member old new t inside is pushed h k =
    let rows : row_of (take (i + 1) items) ≡ last_reading (row_of (take i items)) (nnf_view member) =
    ap row_of (take_more items i member inside ∙ ap (λ (x : Nnf). take i items ++ x ∷ []) (sym is)) ∙ reading_pushed (take i items) member in
    let trees : trees_view new ≡ last_tree (trees_view old) (tree_view t) =
    view_items new ∙ ap (λ l. trees_of (map tree_view l)) pushed ∙ ap trees_of (map-append tree_view (tree_items old) (t ∷ [])) ∙ tree_pushed (map tree_view (tree_items old)) (tree_view t)
    ∙ ap (λ us. last_tree us (tree_view t)) (sym (view_items old)) in
    subst (λ rs. ProvesEach n p rs (trees_view new)) (sym rows)
    (subst (ProvesEach n p (last_reading (row_of (take i items)) (nnf_view member))) (sym trees) (each_push n p (row_of (take i items)) (trees_view old) (nnf_view member) (tree_view t) h k))
