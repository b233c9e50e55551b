-- What a member of a split, and a whole split, proves.
use Rattle.lq_prover_proof_tree.specs.Trees.Path.{Path, taken}
use Rattle.lq_prover_proof_tree.specs.Trees.Proves.{Numbering, Proves, ProvesEach}
use Rattle.lq_prover_proof_tree.specs.Trees.TreeView.{tree_view, trees_view}
use Rattle.lq_logic_rows.specs.Row.{Row}
use Rattle.lq_logic_predicates.specs.Reading.{Reading, Readings}
use Rattle.lq_prover_search.specs.Search.Splits.{IsOpen}
use Rattle.lq_prover_search.specs.declared.search.branch.Branch.{Branch}
use Rattle.lq_prover_search.specs.declared.search.branch.Branch.TheVariants.{Whole, Own}
use Rattle.lq_prover_search.specs.declared.search.branch.Split.{Split}
use Rattle.lq_prover_search.specs.declared.search.branch.Split.TheVariants as split
use Rattle.lq_prover_search.specs.declared.search.open.Open.{Open}
use Rattle.lq_prover_search.specs.declared.search.open.Open.TheVariants.{Choice, Pair}
use Rattle.lq_prover_search.specs.declared.search.search_path.SearchPath.{SearchPath}

-- a tree of the path with a member taken, or of the path before
abbrev pub BranchProves : Numbering → Path → Reading Row → Branch → Type 0
BranchProves n p r (Whole tree) = Proves n p (tree_view tree)
BranchProves n p r (Own tree) = Proves n (taken p r) (tree_view tree)

-- a tree for each member, or one of the path
abbrev pub SplitProves : Numbering → Path → Readings Row → Split → Type 0
SplitProves n p rs (split.Whole tree) = Proves n p (tree_view tree)
SplitProves n p rs (split.Each trees) = ProvesEach n p rs (trees_view trees)

-- the choice or the pair at a place, of which no member was taken
abbrev pub IsOpenIn : SearchPath → Open → Type 0
IsOpenIn p (Choice at) = IsOpen p.choices.items at
IsOpenIn p (Pair at) = IsOpen p.pairs.items at
