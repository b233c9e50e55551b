use Rattle.std.proofs.Common.{◌≡◌, ◌++◌, map, take}
use Rattle.lq_text_tree.specs.TreeView.{tree_view, exprs_items}
use Rattle.lq_text_walk.specs.Walk.Parts.{row_parts}
use Rattle.lq_text_walk.specs.Walk.Pending.{seen}
use Rattle.lq_text_walk.proofs.walk.walk.push_row.Given as goal

abbrev pub invariant-loop-at : goal.invariant-loop-at
invariant-loop-at g l =
    seen _ g.B.Ident.number l.parts.items ≡ seen _ g.B.Ident.number l.initial.parts.items ++ row_parts (map (tree_view _ g.B.Ident.number) (take l.at (exprs_items _ l.exprs)))
