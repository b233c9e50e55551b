-- No point meets a path that a tree proves.
use Rattle.std.proofs.Common.{◌≡◌, inl, inr, ℕ, List, Bool, true, false, not, Some, ◌==◌, eq-eqb, zero, suc}
use Rattle.lq_base_numbers.specs.Rationals.Rational.{ℚ}
use Rattle.lq_logic_rows.specs.Contradiction.{Tagged, Solves, IsContradiction}
use Rattle.lq_logic_rows.specs.Row.{Row, Valuation, RowHolds}
use Rattle.lq_logic_predicates.specs.Comparison.{Comparison, IsRowOf}
use Rattle.lq_logic_predicates.specs.Literals.{equal_row}
use Rattle.lq_logic_predicates.specs.Points.{Point, ComparisonHolds}
use Rattle.lq_logic_predicates.specs.Reading.{Readings}
use Rattle.lq_logic_predicates.specs.RowMeaning.{MeetsAnyRow}
use Rattle.lq_logic_predicates.specs.Sum.{Sum}
use Rattle.lq_logic_predicates.specs.Table.{has_term}
use Rattle.lq_logic_predicates.specs.Numbering.{slice_get-has_term}
use Rattle.lq_prover_proof_tree.specs.Trees.Met.{AllHold, MeetsPath, EachAgree}
use Rattle.lq_prover_proof_tree.specs.Trees.Path.{Fact, row_fact, flag_fact, objects_fact, never, Path, with_fact, with_rows, taken, numbered_at}
use Rattle.lq_prover_proof_tree.specs.Trees.Proves.{Numbering, rows_among, Clashes, rows_clash, flags_clash, merges_clash, five_ways, Proves, by_any, by_apart, by_equal, by_absurdity, by_clash, ProvesEach, each_none, each_more, ProvesWays, ways_none, ways_more}
use Rattle.lq_prover_proof_tree.specs.Trees.Tree.{Clash, Tree, Trees}
use Rattle.lq_prover_proof_tree.proofs.TreesLemmas.Meeting.{fact_numbered, choice_numbered, joined_same, solves_rows, meets_fact, meets_with_rows, meets_taken}
use Rattle.lq_prover_proof_tree.proofs.TreesLemmas.Comparing.{SomeWay, some_way, one_way, rows_hold}

-- what is known of the point: rows say what comparisons say, applications agree, and rows that it solves sum to no contradiction
pub record Suits (n : Numbering) (v : Valuation) (p : Point) : Type 0 where
  pub row_holds : (c : Comparison) (r : Row) → IsRowOf n.terms c r → ComparisonHolds p c → RowHolds v r
  pub agree : EachAgree p n.applications
  pub solved : (rows : Tagged) (ms : List (ℕ × ℚ)) → Solves v rows → IsContradiction rows ms → ⊥

numbered_has : (terms : List Sum) (k : ℕ) (t : Sum) → numbered_at terms k ≡ Some t → has_term terms t ≡ true
numbered_has terms zero t e = cc
numbered_has terms (suc k) t e = slice_get-has_term terms k t e

two_values : (sign b : Bool) → b ≡ sign → b ≡ not sign → ⊥
two_values true b h k = cc
two_values false b h k = cc

clash_refuted : (n : Numbering) (v : Valuation) (p : Point) (facts : List Fact) (c : Clash) → Suits n v p → AllHold v p facts → Clashes facts c → ⊥
clash_refuted n v p facts _ s h (rows_clash ms c) = s.solved (rows_among facts) ms (solves_rows v p 1 facts h) c
clash_refuted n v p facts _ s h (flags_clash t u x sign e f) =
    two_values sign (p.holds x) (fact_numbered v p facts t (flag_fact x sign) h e) (fact_numbered v p facts u (flag_fact x (not sign)) h f)
clash_refuted n v p facts _ s h (merges_clash t ts a b e j) =
    two_values true (p.class_of a == p.class_of b) (eq-eqb (p.class_of a) (p.class_of b) (joined_same v p facts ts a b h j)) (fact_numbered v p facts t (objects_fact a b false) h e)

mutual
  pub refuted : (n : Numbering) (v : Valuation) (p : Point) (path : Path) (tree : Tree) → Suits n v p → MeetsPath v p path → Proves n path tree → ⊥
  refuted n v p _ _ s m (by_any path k members trees e d) =
      each_refuted n v p path members trees s m (choice_numbered v p path.choices k members m.choices e) d
  refuted n v p _ _ s m (by_apart path i j f a b g c d trees e h two ways) =
      ways_refuted n v p path (five_ways f a b g c d) trees s m
      (some_way p f a b g c d two (s.agree f g (numbered_has n.applications i f e) (numbered_has n.applications j g h))) ways
  refuted n v p _ _ s m (by_equal path i j tags f a g b r tree e h one joined is d) =
      refuted n v p (with_fact path (row_fact r)) tree s
      (meets_fact v p path (row_fact r) m
      (s.row_holds (equal_row f g) r is
      (one_way p f a g b one (s.agree f g (numbered_has n.applications i f e) (numbered_has n.applications j g h)) (joined_same v p path.facts tags a b m.facts joined)))) d
  refuted n v p _ _ s m (by_absurdity path t e) = fact_numbered v p path.facts t never m.facts e
  refuted n v p _ _ s m (by_clash path c d) = clash_refuted n v p path.facts c s m.facts d

  each_refuted : (n : Numbering) (v : Valuation) (p : Point) (path : Path) (rs : Readings Row) (trees : Trees) → Suits n v p → MeetsPath v p path → MeetsAnyRow v p rs
      → ProvesEach n path rs trees → ⊥
  each_refuted n v p _ _ _ s m h (each_none path) = absurd h
  each_refuted n v p _ _ _ s m (inl h) (each_more path r rs tree trees d e) = refuted n v p (taken path r) tree s (meets_taken v p path r m h) d
  each_refuted n v p _ _ _ s m (inr h) (each_more path r rs tree trees d e) = each_refuted n v p path rs trees s m h e

  ways_refuted : (n : Numbering) (v : Valuation) (p : Point) (path : Path) (ways : List (List Comparison)) (trees : Trees) → Suits n v p → MeetsPath v p path → SomeWay p ways
      → ProvesWays n path ways trees → ⊥
  ways_refuted n v p _ _ _ s m h (ways_none path) = absurd h
  ways_refuted n v p _ _ _ s m (inl h) (ways_more path cs ways rs tree trees a d e) =
      refuted n v p (with_rows path rs) tree s (meets_with_rows v p path rs m (rows_hold n.terms v p s.row_holds cs rs a h)) d
  ways_refuted n v p _ _ _ s m (inr h) (ways_more path cs ways rs tree trees a d e) = ways_refuted n v p path ways trees s m h e
