use Rattle.std.proofs.Common.{◌≡◌, ◌++◌, drop}
use Rattle.lq_meaning_normal_tree.specs.BlockView.{definitions_view}
use Rattle.lq_text_walk.specs.Scoped.Views.{scoped_items}
use Rattle.lq_meaning_normalize.specs.Normalize.Program.{formed_program, next_behind_all}
use Rattle.lq_meaning_normalize.proofs.normalize.program.normal.Given as goal

-- the definitions so far, and those that are left
abbrev pub invariant-loop-item : goal.invariant-loop-item
invariant-loop-item l =
    (definitions_view l.definitions.done.items ++ formed_program l.definitions.next (scoped_items (drop l.item-index l.items)) ≡ formed_program l.first_made (scoped_items l.items))
    × (next_behind_all l.definitions.next (scoped_items (drop l.item-index l.items)) ≡ next_behind_all l.first_made (scoped_items l.items))
