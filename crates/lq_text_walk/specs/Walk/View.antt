-- The shapes and visits that stand in memory.
use Rattle.std.specs.Prelude.{ℕ, List, map}
use Rattle.lq_text_tree.specs.Tree.{Tree}
use Rattle.lq_text_tree.specs.TreeView.{tree_view, trees_view, cases_view, function_view}
use Rattle.lq_text_tree.specs.PatternView.{pat_view}
use Rattle.lq_text_walk.specs.Walk.Shape as plain
use Rattle.lq_text_walk.specs.Walk.Shape.{listed, listed_cases}
use Rattle.lq_text_walk.specs.declared.walk.shape.Leaf.{Leaf}
use Rattle.lq_text_walk.specs.declared.walk.shape.Leaf.TheVariants as leaf
use Rattle.lq_text_walk.specs.declared.walk.shape.One.{One}
use Rattle.lq_text_walk.specs.declared.walk.shape.One.TheVariants as one
use Rattle.lq_text_walk.specs.declared.walk.shape.Two.{Two}
use Rattle.lq_text_walk.specs.declared.walk.shape.Two.TheVariants as two
use Rattle.lq_text_walk.specs.declared.walk.shape.Three.{Three}
use Rattle.lq_text_walk.specs.declared.walk.shape.Three.TheVariants as three
use Rattle.lq_text_walk.specs.declared.walk.shape.Row.{Row}
use Rattle.lq_text_walk.specs.declared.walk.shape.Row.TheVariants as row
use Rattle.lq_text_walk.specs.declared.walk.shape.Shape.{Shape}
use Rattle.lq_text_walk.specs.declared.walk.shape.Shape.TheVariants as shape

abbrev pub one_view : One → plain.One
one_view one.Neg = plain.negated
one_view one.Not = plain.not_of
one_view one.Assert = plain.assert
one_view one.Length = plain.length_of
one_view one.Print = plain.print
one_view one.Read = plain.read

abbrev pub two_view : Two → plain.Two
two_view two.Call = plain.call
two_view (two.Arith o) = plain.arithmetic o
two_view (two.Compare o) = plain.compare o
two_view two.And = plain.and_of
two_view two.Or = plain.or_of
two_view two.Make = plain.make
two_view two.Fetch = plain.fetch
two_view two.MapFind = plain.map_find

abbrev pub three_view : Three → plain.Three
three_view three.If = plain.if_else
three_view three.Store = plain.store
three_view three.MapAdd = plain.map_add

abbrev pub row_view : Row → plain.Row
row_view row.Tuple = plain.tuple
row_view (row.Build c w) = plain.build c.0 w
row_view row.ListOf = plain.list_of
row_view row.Chain = plain.chain

module _ (B : Type 0) (number : B → ℕ) where
  abbrev pub leaf_view : Leaf B → plain.Leaf
  leaf_view (leaf.Whole n) = plain.whole n
  leaf_view (leaf.Flag b) = plain.flag b
  leaf_view leaf.Unit = plain.unit
  leaf_view (leaf.Use x) = plain.use_of (number x)
  leaf_view (leaf.Qualified m x) = plain.qualified m.0 x.0
  leaf_view leaf.AssertFalse = plain.assert_false
  leaf_view leaf.MapEmpty = plain.map_empty

  abbrev pub shape_view : Shape B → plain.Shape
  shape_view (shape.Leaf h) = plain.leaf (leaf_view h)
  shape_view (shape.One h a) = plain.one (one_view h) (tree_view B number a.now)
  shape_view (shape.Two h a b) = plain.two (two_view h) (tree_view B number a.now) (tree_view B number b.now)
  shape_view (shape.Three h a b c) = plain.three (three_view h) (tree_view B number a.now) (tree_view B number b.now) (tree_view B number c.now)
  shape_view (shape.Row h es) = plain.row (row_view h) (listed (trees_view B number es.now))
  shape_view (shape.Fun p b) = plain.function (pat_view B number p.now) (tree_view B number b.now)
  shape_view (shape.Let p e b) = plain.let_in (pat_view B number p.now) (tree_view B number e.now) (tree_view B number b.now)
  shape_view (shape.LetRec f r b) =
      plain.let_rec (number f.now) (function_view B number r.now).id (function_view B number r.now).place (function_view B number r.now).parameter
      (function_view B number r.now).body (tree_view B number b.now)
  shape_view (shape.Match e cs) = plain.match_on (tree_view B number e.now) (listed_cases (cases_view B number cs.now))
