-- Expressions that are still to be looked at.
use Rattle.std.specs.Prelude.{List, map}
use Rattle.lq_base_names.specs.declared.name.Binder.{Binder}
use Rattle.lq_text_tree.specs.Tree.{Tree}
use Rattle.lq_text_tree.specs.TreeView.{tree_view}
use Rattle.lq_types_infer.specs.declared.inference.values.Pending.{Pending}

abbrev pub pending_view : Pending → Tree
pending_view p = tree_view Binder (λ b. b.0) p.0.now

abbrev pub pending_trees : List Pending → List Tree
pending_trees = map pending_view
