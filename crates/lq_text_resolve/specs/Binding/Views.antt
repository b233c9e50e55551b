-- What stands in memory.
use Rattle.std.specs.Prelude.{ℕ, List, map, reverse, Result, Ok, Err}
use Rattle.lq_base_names.specs.declared.name.Binder.{Binder}
use Rattle.lq_text_tree.specs.Tree.{Tree}
use Rattle.lq_text_tree.specs.TreeView.{Case, arms_items, case_view, form_view, scoped_view, trees_view}
use Rattle.lq_text_tree.specs.declared.expr.Arms.{Arms}
use Rattle.lq_text_tree.specs.declared.expr.Expr.{Expr}
use Rattle.lq_text_tree.specs.declared.expr.Exprs.{Exprs}
use Rattle.lq_text_resolve.specs.Binding.Heads as plain
use Rattle.lq_text_resolve.specs.Binding.Making as value
use Rattle.lq_text_resolve.specs.declared.binding.primitives.Head.{Head}
use Rattle.lq_text_resolve.specs.declared.binding.primitives.Head.TheVariants as head
use Rattle.lq_text_resolve.specs.declared.binding.primitives.Given.{Given}
use Rattle.lq_text_resolve.specs.declared.binding.primitives.Given.TheVariants as given
use Rattle.lq_text_resolve.specs.declared.binding.values.Value.{Value}
use Rattle.lq_text_resolve.specs.declared.binding.values.Value.TheVariants as held

abbrev pub head_view : Head → plain.Head
head_view head.Read = plain.read
head_view head.Print = plain.print
head_view head.Length = plain.length_of
head_view head.Make = plain.make
head_view (head.MakeOf a) = plain.make_of (scoped_view a.value)
head_view head.Find = plain.find
head_view (head.FindOf a) = plain.find_of (scoped_view a.value)
head_view head.Add = plain.add
head_view (head.AddOf a) = plain.add_of (scoped_view a.value)
head_view (head.AddTo a b) = plain.add_to (scoped_view a.value) (scoped_view b.value)

abbrev pub given_view : Given → plain.Given
given_view (given.Done f) = plain.done (form_view Binder (λ b. b.0) f)
given_view (given.Lacking h) = plain.lacking (head_view h)

abbrev pub value_view : Value → value.Value
value_view (held.Whole t) = value.whole (scoped_view t)
value_view (held.Partly h) = value.partly (head_view h)

-- values, the last first
abbrev pub values_view : List Value → List value.Value
values_view vs = map value_view (reverse vs)

abbrev pub trees_in : List (Expr Binder) → List Tree
trees_in = map scoped_view

-- the arms of a match
abbrev pub arms_in : Arms Binder → List Case
arms_in as_ = map (case_view Binder (λ b. b.0)) (arms_items Binder as_)

-- a tuple's number and parts, or the tree itself
abbrev pub spread_view : Result (ℕ × Exprs Binder) (Expr Binder) → value.Spread
spread_view (Ok x) = value.parts_of x.0 (trees_view Binder (λ b. b.0) x.1)
spread_view (Err t) = value.itself (scoped_view t)
