-- The trees of a row, and the arms of a match, as lists.
use Rattle.std.proofs.Common.{◌≡◌, ℕ, List, [], ◌∷◌, map, refl, ap, ◌∙◌, rules}
use Rattle.lq_text_tree.specs.Tree.{Tree, Form, Trees, Cases}
use Rattle.lq_text_tree.specs.TreeView.{Case, Recursive, cases_of, trees_of, tree_view, trees_view, case_view, cases_view, exprs_items, arms_items, node_step, arm_step, arms_step, expr_step, exprs_step, function_step}
use Rattle.lq_text_tree.specs.declared.expr.Exprs.{Exprs, fold_out-Exprs}
use Rattle.lq_text_tree.specs.declared.expr.Arms.{Arms, fold_out-Arms}
use Rattle.lq_text_tree.specs.declared.expr.Expr.{Expr, out-Expr}
use Rattle.lq_text_tree.specs.declared.pattern.Pat.{out-Pat}
use Rattle.lq_text_tree.specs.declared.expr.Arm.{Arm, out-Arm}
use Rattle.lq_text_tree.specs.declared.expr.Node.{the_lemmas}
use Rattle.lq_text_walk.specs.Walk.Shape.{listed, listed_cases}
use Rattle.lq_text_walk.specs.Walk.Visits.{place_of, place_of_pattern}
use Rattle.lq_text_tree.specs.PatternView.{pat_view}
use Rattle.lq_text_walk.proofs.WalkLemmas.PatternPlaces.{pattern_place}

listed_trees : (ts : List Tree) → listed (trees_of ts) ≡ ts
listed_trees [] = refl
listed_trees (t ∷ ts) = ap (λ (us : List Tree). t ∷ us) (listed_trees ts)

listed_arms : (cs : List Case) → listed_cases (cases_of cs) ≡ cs
listed_arms [] = refl
listed_arms (c ∷ cs) = ap (λ (ds : List Case). c ∷ ds) (listed_arms cs)

module _ (B : Type 0) (number : B → ℕ) where
  pub exprs_listed : (es : Exprs B) → listed (trees_view B number es) ≡ map (tree_view B number) (exprs_items B es)
  exprs_listed es =
      ap listed (fold_out-Exprs B Form Case Cases Tree Trees Recursive (node_step B number) (arm_step B number) (arms_step B number) (expr_step B number) (exprs_step B number) (function_step B number) es)
      ∙ listed_trees (map (tree_view B number) (exprs_items B es))

  pub arms_listed : (cs : Arms B) → listed_cases (cases_view B number cs) ≡ map (case_view B number) (arms_items B cs)
  arms_listed cs =
      ap listed_cases (fold_out-Arms B Form Case Cases Tree Trees Recursive (node_step B number) (arm_step B number) (arms_step B number) (expr_step B number) (exprs_step B number) (function_step B number) cs)
      ∙ listed_arms (map (case_view B number) (arms_items B cs))

  pub tree_place : (e : Expr B) → place_of (tree_view B number e) ≡ (out-Expr B e).place
  tree_place e = search (rules, the_lemmas)

  case_pattern : (a : Arm B) → (case_view B number a).pattern ≡ pat_view B number (out-Arm B a).pattern
  case_pattern a = search (rules, the_lemmas)

  pub arm_place : (a : Arm B) → place_of_pattern (case_view B number a).pattern ≡ (out-Pat B (out-Arm B a).pattern).place
  arm_place a = ap place_of_pattern (case_pattern a) ∙ pattern_place B number (out-Arm B a).pattern
