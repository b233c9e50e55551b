use Rattle.std.proofs.Common.{◌≡◌, ℕ, List, Option, drop}
use Rattle.lq_text_walk.specs.Scoped.Whole.{scoped_view}
use Rattle.lq_types_table.specs.Whole.{types_of}
use Rattle.lq_types_rules.specs.Typings.Principal.{node_count}
use Rattle.lq_types_infer.specs.Annotation.Numbering.{behind_items, AreUnnamed, IsNaming}
use Rattle.lq_types_infer.specs.Annotation.Slots.{slot_types}
use Rattle.lq_types_infer.proofs.annotation.numbering.names_of.Given as goal

abbrev pub invariant-loop-at : goal.invariant-loop-at
invariant-loop-at l =
    IsNaming (types_of l.table) l.naming
    × ((first : List (Option ℕ)) × AreUnnamed (types_of l.table) first
    × (behind_items (node_count (scoped_view l.program)) (slot_types (types_of l.table) l.rows) l.naming.names.items
    (drop l.at (scoped_view l.program).items)
    ≡ behind_items (node_count (scoped_view l.program)) (slot_types (types_of l.table) l.rows) first (scoped_view l.program).items))
