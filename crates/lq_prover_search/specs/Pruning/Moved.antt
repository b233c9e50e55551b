-- Proof trees of a path without some facts and choices.
use Rattle.std.specs.Prelude.{All, map}
use Rattle.lq_prover_proof_tree.specs.Trees.Tree.{Clash, rows, flags, merges, Tree, any, apart, equal, absurdity, leaf, Trees, none, more}
use Rattle.lq_prover_search.specs.Pruning.Span.{IsOutside, moved}
use Rattle.lq_prover_search.specs.declared.pruning.span.Span.{Span}

-- it speaks of none of these facts
abbrev pub ClashSpares : Span → Clash → Type 0
ClashSpares facts (rows ms) = All (λ m. IsOutside facts m.0) ms
ClashSpares facts (flags t u) = IsOutside facts t × IsOutside facts u
ClashSpares facts (merges t ts) = IsOutside facts t × All (IsOutside facts) ts

-- it speaks of none of these facts, and of none of these choices
abbrev mutual
  pub Spares : Span → Span → Tree → Type 0
  Spares facts choices (any k trees) = IsOutside choices k × EachSpares facts choices trees
  Spares facts choices (apart i j trees) = EachSpares facts choices trees
  Spares facts choices (equal i j ts tree) = All (IsOutside facts) ts × Spares facts choices tree
  Spares facts choices (absurdity t) = IsOutside facts t
  Spares facts choices (leaf clash) = ClashSpares facts clash

  pub EachSpares : Span → Span → Trees → Type 0
  EachSpares facts choices none = Unit {0}
  EachSpares facts choices (more tree trees) = Spares facts choices tree × EachSpares facts choices trees

abbrev pub moved_clash : Span → Clash → Clash
moved_clash facts (rows ms) = rows (map (λ m. (moved facts m.0, m.1)) ms)
moved_clash facts (flags t u) = flags (moved facts t) (moved facts u)
moved_clash facts (merges t ts) = merges (moved facts t) (map (moved facts) ts)

-- the tree with the numbers that facts and choices have once these are gone
abbrev mutual
  pub moved_tree : Span → Span → Tree → Tree
  moved_tree facts choices (any k trees) = any (moved choices k) (moved_trees facts choices trees)
  moved_tree facts choices (apart i j trees) = apart i j (moved_trees facts choices trees)
  moved_tree facts choices (equal i j ts tree) = equal i j (map (moved facts) ts) (moved_tree facts choices tree)
  moved_tree facts choices (absurdity t) = absurdity (moved facts t)
  moved_tree facts choices (leaf clash) = leaf (moved_clash facts clash)

  pub moved_trees : Span → Span → Trees → Trees
  moved_trees facts choices none = none
  moved_trees facts choices (more tree trees) = more (moved_tree facts choices tree) (moved_trees facts choices trees)
