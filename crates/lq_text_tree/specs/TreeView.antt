-- The tree that an expression in memory stands for.
use Rattle.std.specs.Prelude.{ℕ, List, [], ◌∷◌}
use Rattle.lq_text_tree.specs.Pattern.{Pattern}
use Rattle.lq_text_tree.specs.PatternView.{pat_view}
use Rattle.lq_text_tree.specs.Tree.{Tree, tree, Form, whole, flag, unit, use_of, qualified, fun, tuple, build, list_of, let_in, let_rec, call, arithmetic, negated, compare, not_of, and_of, or_of, if_else, match_on, chain, assert, assert_false, make, length_of, fetch, store, print, read, map_empty, map_add, map_find, Trees, no_trees, more_trees, Cases, no_cases, more_cases}
use Rattle.lq_base_names.specs.declared.name.Name.{Name}
use Rattle.lq_base_names.specs.declared.name.Binder.{Binder}
use Rattle.lq_base_names.specs.declared.place.Place.{Place}
use Rattle.lq_text_tree.specs.declared.expr.Expr.{Expr, fold-Expr}
use Rattle.lq_text_tree.specs.declared.expr.Exprs.{Exprs, fold-Exprs, out-Exprs}
use Rattle.lq_text_tree.specs.declared.expr.Function.{Function, fold-Function}
use Rattle.lq_text_tree.specs.declared.expr.Arm.{Arm, fold-Arm}
use Rattle.lq_text_tree.specs.declared.expr.Arms.{Arms, fold-Arms, out-Arms}
use Rattle.lq_text_tree.specs.declared.expr.Node.{Node, fold-Node}
use Rattle.lq_text_tree.specs.declared.expr.Node.TheOpen.{Node-F, Expr-F, Exprs-F, Function-F, Arm-F, Arms-F}

-- an arm
pub record Case : Type 0 where
  pub pattern : Pattern
  pub body : Tree

-- the function of a recursive definition
pub record Recursive : Type 0 where
  pub id : ℕ
  pub place : Place
  pub parameter : Pattern
  pub body : Tree

abbrev pub trees_of : List Tree → Trees
trees_of [] = no_trees
trees_of (t ∷ ts) = more_trees t (trees_of ts)

abbrev pub cases_of : List Case → Cases
cases_of [] = no_cases
cases_of (c ∷ cs) = more_cases c.pattern c.body (cases_of cs)

-- the expressions of a row, and the arms
abbrev pub exprs_items : (B : Type 0) → Exprs B → List (Expr B)
exprs_items B es = (out-Exprs B es).items.items

abbrev pub arms_items : (B : Type 0) → Arms B → List (Arm B)
arms_items B as_ = (out-Arms B as_).items.items

module _ (B : Type 0) (number : B → ℕ) where
  -- one level, with each tree inside already seen
  abbrev pub node_step : Node-F B Form Case Cases Tree Trees Recursive → Form
  node_step (Node-F.Whole n) = whole n
  node_step (Node-F.Flag b) = flag b
  node_step Node-F.Unit = unit
  node_step (Node-F.Use x) = use_of (number x)
  node_step (Node-F.Qualified m x) = qualified m.0 x.0
  node_step (Node-F.Fun p b) = fun (pat_view B number p.value) b.value
  node_step (Node-F.Tuple es) = tuple es
  node_step (Node-F.Build c w es) = build c.0 w es
  node_step (Node-F.ListOf es) = list_of es
  node_step (Node-F.Let p e b) = let_in (pat_view B number p.value) e.value b.value
  node_step (Node-F.LetRec f r b) = let_rec (number f) r.value.id r.value.place r.value.parameter r.value.body b.value
  node_step (Node-F.Call f a) = call f.value a.value
  node_step (Node-F.Arith o a b) = arithmetic o a.value b.value
  node_step (Node-F.Neg e) = negated e.value
  node_step (Node-F.Compare o a b) = compare o a.value b.value
  node_step (Node-F.Not e) = not_of e.value
  node_step (Node-F.And a b) = and_of a.value b.value
  node_step (Node-F.Or a b) = or_of a.value b.value
  node_step (Node-F.If c a b) = if_else c.value a.value b.value
  node_step (Node-F.Match e cs) = match_on e.value cs
  node_step (Node-F.Chain es) = chain es
  node_step (Node-F.Assert e) = assert e.value
  node_step Node-F.AssertFalse = assert_false
  node_step (Node-F.Make n e) = make n.value e.value
  node_step (Node-F.Length a) = length_of a.value
  node_step (Node-F.Fetch a i) = fetch a.value i.value
  node_step (Node-F.Store a i e) = store a.value i.value e.value
  node_step (Node-F.Print e) = print e.value
  node_step (Node-F.Read e) = read e.value
  node_step Node-F.MapEmpty = map_empty
  node_step (Node-F.MapAdd k e m) = map_add k.value e.value m.value
  node_step (Node-F.MapFind k m) = map_find k.value m.value

  abbrev pub arm_step : Arm-F B Form Case Cases Tree Trees Recursive → Case
  arm_step a = record { pattern = pat_view B number a.pattern; body = a.body.value }

  abbrev pub arms_step : Arms-F B Form Case Cases Tree Trees Recursive → Cases
  arms_step a = cases_of a.items.items

  abbrev pub expr_step : Expr-F B Form Case Cases Tree Trees Recursive → Tree
  expr_step e = tree e.id e.place e.node

  abbrev pub exprs_step : Exprs-F B Form Case Cases Tree Trees Recursive → Trees
  exprs_step e = trees_of e.items.items

  abbrev pub function_step : Function-F B Form Case Cases Tree Trees Recursive → Recursive
  function_step f =
      record { id = f.id; place = f.place; parameter = pat_view B number f.parameter; body = f.body.value }

  abbrev pub form_view : Node B → Form
  form_view = fold-Node B Form Case Cases Tree Trees Recursive node_step arm_step arms_step expr_step exprs_step function_step

  abbrev pub case_view : Arm B → Case
  case_view = fold-Arm B Form Case Cases Tree Trees Recursive node_step arm_step arms_step expr_step exprs_step function_step

  abbrev pub cases_view : Arms B → Cases
  cases_view = fold-Arms B Form Case Cases Tree Trees Recursive node_step arm_step arms_step expr_step exprs_step function_step

  abbrev pub tree_view : Expr B → Tree
  tree_view = fold-Expr B Form Case Cases Tree Trees Recursive node_step arm_step arms_step expr_step exprs_step function_step

  abbrev pub trees_view : Exprs B → Trees
  trees_view = fold-Exprs B Form Case Cases Tree Trees Recursive node_step arm_step arms_step expr_step exprs_step function_step

  abbrev pub function_view : Function B → Recursive
  function_view = fold-Function B Form Case Cases Tree Trees Recursive node_step arm_step arms_step expr_step exprs_step function_step

-- a parsed tree and a scoped one
abbrev pub parsed_view : Expr Name → Tree
parsed_view = tree_view Name (λ n. n.0)

abbrev pub scoped_view : Expr Binder → Tree
scoped_view = tree_view Binder (λ b. b.0)
