-- A tree that speaks of none of some facts and choices proves the path without them.
use Rattle.std.proofs.Common.{◌≡◌, List, [], ◌∷◌, ◌++◌, length, map, sym, ap, ap₂, subst, ◌∙◌, append_assoc}
use Rattle.lq_prover_proof_tree.specs.Trees.Path.{Fact, row_fact, never, Path, with_fact, with_rows, taken, numbered_at}
use Rattle.lq_prover_proof_tree.specs.Trees.Proves.{AreJoined, Clashes, Numbering, Proves, by_any, by_apart, by_equal, by_absurdity, by_clash, ProvesEach, each_none, each_more, ProvesWays, ways_none, ways_more, five_ways}
use Rattle.lq_prover_proof_tree.specs.Trees.Tree.{Tree, Trees}
use Rattle.lq_logic_rows.specs.Row.{Row}
use Rattle.lq_logic_predicates.specs.Comparison.{Comparison}
use Rattle.lq_logic_predicates.specs.Reading.{Readings}
use Rattle.lq_prover_search.specs.Pruning.Moved.{Spares, EachSpares, moved_tree, moved_trees}
use Rattle.lq_prover_search.specs.Pruning.Span.{IsOutside, moved}
use Rattle.lq_prover_search.specs.declared.pruning.span.Span.{Span}
use Rattle.lq_prover_search.proofs.PruningLemmas.Clashing.{clash_moves, fact_moves, joined_moves, spared}
use Rattle.lq_prover_search.proofs.PruningLemmas.Numbers.{number_moves}
use Rattle.lq_prover_search.proofs.PruningLemmas.Taking.{facts_of, choices_of, path_with, one_fact, taken_is, with_rows_is}

module _ (n : Numbering) (f g : List Fact) (c d : List (Readings Row)) (facts choices : Span) (fb : facts.before ≡ length f) (fc : facts.count ≡ length g) (cb : choices.before ≡ length c)
    (ct : choices.count ≡ length d) where
  abbrev whole : List Fact → List (Readings Row) → Path
  whole h e = record { facts = f ++ (g ++ h); choices = c ++ (d ++ e) }

  abbrev left : List Fact → List (Readings Row) → Path
  left h e = record { facts = f ++ h; choices = c ++ e }

  -- more facts and choices behind
  whole_with : (h k : List Fact) (e i : List (Readings Row)) → path_with (whole h e) k i ≡ whole (h ++ k) (e ++ i)
  whole_with h k e i =
      ap₂ (λ (x : List Fact) (y : List (Readings Row)). record { facts = x; choices = y }) (append_assoc f (g ++ h) k ∙ ap (λ l. f ++ l) (append_assoc g h k))
      (append_assoc c (d ++ e) i ∙ ap (λ l. c ++ l) (append_assoc d e i))

  left_with : (h k : List Fact) (e i : List (Readings Row)) → path_with (left h e) k i ≡ left (h ++ k) (e ++ i)
  left_with h k e i = ap₂ (λ (x : List Fact) (y : List (Readings Row)). record { facts = x; choices = y }) (append_assoc f h k) (append_assoc c e i)

  grown : (add : Path → Path) (h k : List Fact) (e i : List (Readings Row)) (p : Path) → ((q : Path) → add q ≡ path_with q k i) → p ≡ whole h e
      → add p ≡ whole (h ++ k) (e ++ i)
  grown add h k e i p adds is = adds p ∙ ap (λ q. path_with q k i) is ∙ whole_with h k e i

  shrunk : (add : Path → Path) (h k : List Fact) (e i : List (Readings Row)) → ((q : Path) → add q ≡ path_with q k i) → left (h ++ k) (e ++ i) ≡ add (left h e)
  shrunk add h k e i adds = sym (adds (left h e) ∙ left_with h k e i)

  mutual
    pub pruned : (h : List Fact) (e : List (Readings Row)) (p : Path) (tree : Tree) → p ≡ whole h e → Spares facts choices tree → Proves n p tree
        → Proves n (left h e) (moved_tree facts choices tree)
    pruned h e p _ is o (by_any _ k members trees w t) =
        by_any (left h e) (moved choices k) members (moved_trees facts choices trees)
        (sym (number_moves c d e choices k cb ct o.0) ∙ ap (λ (q : Path). numbered_at q.choices k) (sym is) ∙ w) (pruned_each h e p members trees is o.1 t)
    pruned h e p _ is o (by_apart _ i j s a b t x y trees w v m ways) =
        by_apart (left h e) i j s a b t x y (moved_trees facts choices trees) w v m (pruned_ways h e p (five_ways s a b t x y) trees is o ways)
    pruned h e p _ is o (by_equal _ i j tags s a t b r tree w v m q z more) =
        by_equal (left h e) i j (map (moved facts) tags) s a t b r (moved_tree facts choices tree) w v m
        (joined_moves (f ++ (g ++ h)) (f ++ h) (moved facts) (IsOutside facts) (spared f g h facts fb fc) tags a b o.0 (subst (λ (u : Path). AreJoined u.facts tags a b) is q)) z
        (subst (λ q. Proves n q (moved_tree facts choices tree)) (shrunk (λ q. with_fact q (row_fact r)) h (row_fact r ∷ []) e [] (λ q. one_fact q (row_fact r)))
        (pruned (h ++ row_fact r ∷ []) (e ++ []) (with_fact p (row_fact r)) tree
        (grown (λ q. with_fact q (row_fact r)) h (row_fact r ∷ []) e [] p (λ q. one_fact q (row_fact r)) is) o.1 more))
    pruned h e p _ is o (by_absurdity _ t w) =
        by_absurdity (left h e) (moved facts t) (fact_moves (f ++ (g ++ h)) (f ++ h) (moved facts) (IsOutside facts) (spared f g h facts fb fc) t never o (ap (λ (q : Path). numbered_at q.facts t) (sym is) ∙ w))
    pruned h e p _ is o (by_clash _ clash w) = by_clash (left h e) _ (clash_moves f g h facts fb fc clash o (subst (λ (q : Path). Clashes q.facts clash) is w))

    pruned_each : (h : List Fact) (e : List (Readings Row)) (p : Path) (members : Readings Row) (trees : Trees) → p ≡ whole h e → EachSpares facts choices trees
        → ProvesEach n p members trees → ProvesEach n (left h e) members (moved_trees facts choices trees)
    pruned_each h e p _ _ is o (each_none _) = each_none (left h e)
    pruned_each h e p _ _ is o (each_more _ r rs tree trees t ts) =
        each_more (left h e) r rs (moved_tree facts choices tree) (moved_trees facts choices trees)
        (subst (λ q. Proves n q (moved_tree facts choices tree)) (shrunk (λ q. taken q r) h (facts_of r) e (choices_of r) (λ q. taken_is q r))
        (pruned (h ++ facts_of r) (e ++ choices_of r) (taken p r) tree (grown (λ q. taken q r) h (facts_of r) e (choices_of r) p (λ q. taken_is q r) is) o.0 t))
        (pruned_each h e p rs trees is o.1 ts)

    pruned_ways : (h : List Fact) (e : List (Readings Row)) (p : Path) (ways : List (List Comparison)) (trees : Trees) → p ≡ whole h e → EachSpares facts choices trees
        → ProvesWays n p ways trees → ProvesWays n (left h e) ways (moved_trees facts choices trees)
    pruned_ways h e p _ _ is o (ways_none _) = ways_none (left h e)
    pruned_ways h e p _ _ is o (ways_more _ cs ways rs tree trees a t ts) =
        ways_more (left h e) cs ways rs (moved_tree facts choices tree) (moved_trees facts choices trees) a
        (subst (λ q. Proves n q (moved_tree facts choices tree)) (shrunk (λ q. with_rows q rs) h (map row_fact rs) e [] (λ q. with_rows_is q rs))
        (pruned (h ++ map row_fact rs) (e ++ []) (with_rows p rs) tree (grown (λ q. with_rows q rs) h (map row_fact rs) e [] p (λ q. with_rows_is q rs) is) o.0 t))
        (pruned_ways h e p ways trees is o.1 ts)
