-- The definitions that stand in memory.
use Rattle.std.specs.Prelude.{ℕ, List, [], map}
use Rattle.lq_text_tree.specs.Items.{ItemTree}
use Rattle.lq_text_walk.specs.Scoped.Views.{scoped_items, source_view}
use Rattle.lq_text_resolve.specs.Binding.Making.{Bound_tree, first_frame, items_made}
use Rattle.lq_text_resolve.specs.declared.binding.program.Bound.{Bound}

abbrev pub bound_view : Bound → Bound_tree
bound_view b = record { items = scoped_items b.items.items; sources = map source_view b.sources.items }

-- how many nodes the definitions of a program get
abbrev pub nodes_made : List (List ℕ) → List ItemTree → ℕ
nodes_made names is = (items_made names first_frame 0 [] is).next
