-- Trees of a path with readings taken, and of the path before.
use Rattle.std.proofs.Common.{◌≡◌, List, [], ◌∷◌, ◌++◌, Some, length, map, refl, sym, ap, ap₂, subst, ◌∙◌, append-nil}
use Rattle.std.specs.List.{filter}
use Rattle.lq_prover_proof_tree.specs.Trees.Path.{Fact, Path, each_taken, nothing, numbered_at, row_fact, taken, with_fact, with_rows}
use Rattle.lq_prover_proof_tree.specs.Trees.Proves.{Numbering, Proves, ProvesEach, ProvesWays, by_apart, each_none, each_more, five_ways, ways_none, ways_more}
use Rattle.lq_prover_proof_tree.specs.Trees.Tree.{Tree, Trees, apart}
use Rattle.lq_logic_rows.specs.Row.{Row}
use Rattle.lq_prover_proof_tree.specs.Literals.Parts.{is_application}
use Rattle.lq_logic_predicates.specs.Comparison.{Comparison}
use Rattle.lq_logic_predicates.specs.NnfView.{nnfs_view, readings_of}
use Rattle.lq_logic_predicates.specs.Reading.{Reading, row, Readings, none, more}
use Rattle.lq_prover_search.proofs.PruningLemmas.Taking.{choices_of, facts_of, taken_is}
use Rattle.lq_prover_search.specs.Pruning.Moved.{Spares, moved_tree}
use Rattle.lq_prover_search.specs.declared.pruning.span.Span.{Span}
use Rattle.lq_prover_search.specs.Search.Pairs.{AreWays, IsPair, reading_of_rows}
use Rattle.lq_prover_search.specs.declared.search.pair.Pair.{Pair}

-- ---- a reading that is spared

-- a tree that speaks of none of some facts and choices proves the path without them
abbrev pub CanGo : Type 0
CanGo =
    (n : Numbering) (f g h : List Fact) (c d e : List (Readings Row)) (facts choices : Span) (t : Tree) → facts.before ≡ length f → facts.count ≡ length g → choices.before ≡ length c
    → choices.count ≡ length d → Spares facts choices t → Proves n (record { facts = f ++ (g ++ h); choices = c ++ (d ++ e) }) t
    → Proves n (record { facts = f ++ h; choices = c ++ e }) (moved_tree facts choices t)

pub reading_gone : CanGo → (n : Numbering) (p : Path) (r : Reading Row) (facts choices : Span) (t : Tree) → facts.before ≡ length p.facts → choices.before ≡ length p.choices
    → facts.count ≡ length (taken nothing r).facts → choices.count ≡ length (taken nothing r).choices → Spares facts choices t → Proves n (taken p r) t
    → Proves n p (moved_tree facts choices t)
reading_gone go n p r facts choices t fb cb fc cc' spare proves =
    subst (λ q. Proves n q (moved_tree facts choices t)) without
    (go n p.facts (facts_of r) [] p.choices (choices_of r) [] facts choices t fb (fc ∙ ap (λ (q : Path). length q.facts) (taken_is nothing r)) cb
    (cc' ∙ ap (λ (q : Path). length q.choices) (taken_is nothing r)) spare (subst (λ q. Proves n q t) with proves))
  where
    without : record { facts = p.facts ++ []; choices = p.choices ++ [] } ≡ p
    without = ap₂ (λ f c. record { facts = f; choices = c }) (append-nil p.facts) (append-nil p.choices)

    with : taken p r ≡ record { facts = p.facts ++ (facts_of r ++ []); choices = p.choices ++ (choices_of r ++ []) }
    with = taken_is p r ∙ ap₂ (λ f c. record { facts = p.facts ++ f; choices = p.choices ++ c }) (sym (append-nil (facts_of r))) (sym (append-nil (choices_of r)))

-- ---- the ways of a pair

each_row : (p : Path) (rows : List Row) → each_taken p (readings_of (map row rows)) ≡ with_rows p rows
each_row p [] = refl
each_row p (r ∷ rows) = each_row (with_fact p (row_fact r)) rows

way_taken : (p : Path) (rows : List Row) → taken p (reading_of_rows rows) ≡ with_rows p rows
way_taken p [] = refl
way_taken p (r ∷ []) = refl
way_taken p (r ∷ s ∷ rows) = each_row p (r ∷ s ∷ rows)

proves_ways : (n : Numbering) (p : Path) (ways : List (List Comparison)) (rs : Readings Row) (trees : Trees) → AreWays n.terms ways rs → ProvesEach n p rs trees → ProvesWays n p ways trees
proves_ways n p [] none _ w (each_none _) = ways_none p
proves_ways n p (cs ∷ ways) (more r rs) _ w (each_more _ _ _ t trees h k) =
    ways_more p cs ways w.0.rows t trees w.0.are (subst (λ q. Proves n q t) (ap (taken p) w.0.is ∙ way_taken p w.0.rows) h) (proves_ways n p ways rs trees w.1 k)
proves_ways n p [] (more r rs) trees w k = absurd w
proves_ways n p (cs ∷ ways) none trees w k = absurd w

pub pair_split : (n : Numbering) (p : Path) (pair : Pair) (trees : Trees) → n.applications ≡ filter is_application n.terms → IsPair n.terms pair → ProvesEach n p (nnfs_view pair.ways) trees
    → Proves n p (apart pair.left pair.right trees)
pair_split n p pair trees e i h =
    by_apart p pair.left pair.right i.first i.first_left i.first_right i.second i.second_left i.second_right trees
    (subst (λ l. numbered_at l pair.left ≡ Some i.first) (sym e) i.is_first) (subst (λ l. numbered_at l pair.right ≡ Some i.second) (sym e) i.is_second) i.apply
    (proves_ways n p (five_ways i.first i.first_left i.first_right i.second i.second_left i.second_right) (nnfs_view pair.ways) trees i.ways h)
