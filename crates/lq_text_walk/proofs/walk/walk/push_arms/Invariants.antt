use Rattle.std.proofs.Common.{◌≡◌, ◌++◌, map, take}
use Rattle.lq_text_tree.specs.TreeView.{case_view, arms_items}
use Rattle.lq_text_walk.specs.Walk.Parts.{arms_parts}
use Rattle.lq_text_walk.specs.Walk.Pending.{seen}
use Rattle.lq_text_walk.proofs.walk.walk.push_arms.Given as goal

abbrev pub invariant-loop-at : goal.invariant-loop-at
invariant-loop-at g l =
    seen _ g.B.Ident.number l.parts.items ≡ seen _ g.B.Ident.number l.initial.parts.items ++ arms_parts (map (case_view _ g.B.Ident.number) (take l.at (arms_items _ l.arms)))
