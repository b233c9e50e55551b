-- The numbers that a node of a shape names are in range.
use Rattle.std.specs.Prelude.{ℕ, ◌+◌, ◌<◌, All}
use Rattle.lq_text_tree.specs.Pattern.{Pattern, bound_in}
use Rattle.lq_text_tree.specs.Items.{ItemForm, type_of, let_of, let_rec_of}
use Rattle.lq_text_tree.specs.Tree.{Tree, tree}
use Rattle.lq_text_tree.specs.TreeView.{Case, Recursive}
use Rattle.lq_text_walk.specs.Walk.Shape as shape
use Rattle.lq_text_walk.specs.Walk.Shape.{Leaf, Shape, shape_of}
use Rattle.lq_types_rules.specs.Equations.Rows.{number_of}

-- the binders of a pattern, which stand behind so many nodes, are below n
abbrev pub PatternIn : ℕ → ℕ → Pattern → Type 0
PatternIn nodes n q = All (λ x. nodes + x < n) (bound_in q)

abbrev pub LeafIn : ℕ → ℕ → Leaf → Type 0
LeafIn nodes n (shape.whole m) = Unit {0}
LeafIn nodes n (shape.flag b) = Unit {0}
LeafIn nodes n shape.unit = Unit {0}
LeafIn nodes n (shape.use_of x) = nodes + x < n
LeafIn nodes n (shape.qualified m x) = Unit {0}
LeafIn nodes n shape.assert_false = Unit {0}
LeafIn nodes n shape.map_empty = Unit {0}

abbrev pub CaseIn : ℕ → ℕ → Case → Type 0
CaseIn nodes n c = PatternIn nodes n c.pattern × (number_of c.body < n)

abbrev pub ShapeIn : ℕ → ℕ → Shape → Type 0
ShapeIn nodes n (shape.leaf h) = LeafIn nodes n h
ShapeIn nodes n (shape.one h a) = number_of a < n
ShapeIn nodes n (shape.two h a b) = (number_of a < n) × (number_of b < n)
ShapeIn nodes n (shape.three h a b c) = (number_of a < n) × (number_of b < n) × (number_of c < n)
ShapeIn nodes n (shape.row h ts) = All (λ t. number_of t < n) ts
ShapeIn nodes n (shape.function p b) = PatternIn nodes n p × (number_of b < n)
ShapeIn nodes n (shape.let_in p e b) = PatternIn nodes n p × (number_of e < n) × (number_of b < n)
ShapeIn nodes n (shape.let_rec f i q p e b) = (nodes + f < n) × (i < n) × (number_of b < n)
ShapeIn nodes n (shape.match_on e as_) = (number_of e < n) × All (CaseIn nodes n) as_

abbrev pub TreeIn : ℕ → ℕ → Tree → Type 0
TreeIn nodes n (tree i p f) = (i < n) × ShapeIn nodes n (shape_of f)

abbrev pub FunctionIn : ℕ → ℕ → Recursive → Type 0
FunctionIn nodes n r = PatternIn nodes n r.parameter × (number_of r.body < n) × (r.id < n)

abbrev pub ItemIn : ℕ → ℕ → ItemForm → Type 0
ItemIn nodes n (type_of d) = Unit {0}
ItemIn nodes n (let_of q e) = PatternIn nodes n q × (number_of e < n)
ItemIn nodes n (let_rec_of f r) = (nodes + f < n) × (r.id < n)
