-- A tree, level by level.
use Rattle.std.proofs.Common.{◌≡◌, ℕ, ◌≤◌, List, map, take, length, sym, ap, ◌∙◌, rules}
use Rattle.std.specs.declared.alloc.Global.{Global}
use Rattle.std.specs.declared.boxed.Box.{Box}
use Rattle.std.specs.declared.vec.Vec.{Vec}
use Rattle.std.proofs.lemmas.List.{take_all}
use Rattle.lq_text_tree.specs.Tree.{Form, Tree, Trees, Cases, build, match_on}
use Rattle.lq_text_tree.specs.TreeView.{Case, Recursive, cases_of, trees_of, form_view, case_view, cases_view, tree_view, trees_view, node_step, arm_step, arms_step, expr_step, exprs_step, function_step}
use Rattle.lq_base_names.specs.declared.name.Name.{Name}
use Rattle.lq_text_tree.specs.declared.expr.Arguments.{Arguments}
use Rattle.lq_text_tree.specs.declared.expr.Expr.{Expr}
use Rattle.lq_text_tree.specs.declared.expr.Exprs.{Exprs, out-Exprs, roll-Exprs, fold-roll-Exprs, fold_out-Exprs}
use Rattle.lq_text_tree.specs.declared.expr.Arm.{Arm}
use Rattle.lq_text_tree.specs.declared.expr.Arms.{Arms, out-Arms, roll-Arms, fold-roll-Arms, fold_out-Arms}
use Rattle.lq_text_tree.specs.declared.expr.Node.{Build, Match, the_lemmas}

module _ (B : Type 0) (number : B → ℕ) where
  pub view-Build : (c : Name) (held : Arguments) (es : Exprs B) → form_view B number (Build c held es) ≡ build c.0 held (trees_view B number es)
  view-Build c held es = search (rules, the_lemmas)

  pub view-Match : (e : Box (Expr B) Global) (cs : Arms B) → form_view B number (Match e cs) ≡ match_on (tree_view B number e.value) (cases_view B number cs)
  view-Match e cs = search (rules, the_lemmas)

  pub trees_view-roll : (v : Vec (Expr B) Global) → trees_view B number (roll-Exprs B record { items = v }) ≡ trees_of (map (tree_view B number) v.items)
  trees_view-roll v =
      fold-roll-Exprs B Form Case Cases Tree Trees Recursive (node_step B number) (arm_step B number) (arms_step B number) (expr_step B number) (exprs_step B number) (function_step B number) record { items = v }

  pub trees_view-out : (es : Exprs B) → trees_view B number es ≡ trees_of (map (tree_view B number) (out-Exprs B es).items.items)
  trees_view-out es =
      fold_out-Exprs B Form Case Cases Tree Trees Recursive (node_step B number) (arm_step B number) (arms_step B number) (expr_step B number) (exprs_step B number) (function_step B number) es

  pub cases_view-roll : (v : Vec (Arm B) Global) → cases_view B number (roll-Arms B record { items = v }) ≡ cases_of (map (case_view B number) v.items)
  cases_view-roll v =
      fold-roll-Arms B Form Case Cases Tree Trees Recursive (node_step B number) (arm_step B number) (arms_step B number) (expr_step B number) (exprs_step B number) (function_step B number) record { items = v }

  pub cases_view-out : (cs : Arms B) → cases_view B number cs ≡ cases_of (map (case_view B number) (out-Arms B cs).items.items)
  cases_view-out cs =
      fold_out-Arms B Form Case Cases Tree Trees Recursive (node_step B number) (arm_step B number) (arms_step B number) (expr_step B number) (exprs_step B number) (function_step B number) cs

module _ (B : Type 0) (number : B → ℕ) where
  pub exprs_copied : (v : Vec (Expr B) Global) (es : Exprs B) (xs : List (Expr B)) (i : ℕ) → map (tree_view B number) v.items ≡ map (tree_view B number) (take i xs) → length xs ≤ i → xs ≡ (out-Exprs B es).items.items → trees_view B number (roll-Exprs B record { items = v }) ≡ trees_view B number es
  exprs_copied v es xs i same past is =
      trees_view-roll B number v
      ∙ ap trees_of (same ∙ ap (map (tree_view B number)) (take_all i xs past ∙ is))
      ∙ sym (trees_view-out B number es)

  pub arms_copied : (v : Vec (Arm B) Global) (cs : Arms B) (xs : List (Arm B)) (i : ℕ) → map (case_view B number) v.items ≡ map (case_view B number) (take i xs) → length xs ≤ i → xs ≡ (out-Arms B cs).items.items → cases_view B number (roll-Arms B record { items = v }) ≡ cases_view B number cs
  arms_copied v cs xs i same past is =
      cases_view-roll B number v
      ∙ ap cases_of (same ∙ ap (map (case_view B number)) (take_all i xs past ∙ is))
      ∙ sym (cases_view-out B number cs)
