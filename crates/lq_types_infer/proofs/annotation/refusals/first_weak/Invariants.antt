use Rattle.std.proofs.Common.{drop}
use Rattle.lq_types_rules.specs.Visits.Laws.{slot_count}
use Rattle.lq_text_walk.specs.Scoped.Whole.{scoped_view}
use Rattle.lq_types_table.specs.Whole.{types_of}
use Rattle.lq_types_rules.specs.Typings.Principal.{node_count}
use Rattle.lq_types_infer.specs.Annotation.Slots.{slot_types}
use Rattle.lq_types_infer.proofs.AnnotationLemmas.Refusing.{WeakLeft, views}
use Rattle.lq_types_infer.proofs.annotation.refusals.first_weak.Given as goal

abbrev pub invariant-loop-item : goal.invariant-loop-item
invariant-loop-item l =
    WeakLeft (node_count (scoped_view l.program)) (slot_count (scoped_view l.program)) (slot_types (types_of l.table) l.rows)
    (scoped_view l.program).items
    (views (drop l.item-index l.item-items))
