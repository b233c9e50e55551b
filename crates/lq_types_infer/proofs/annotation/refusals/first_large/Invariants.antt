use Rattle.std.proofs.Common.{length}
use Rattle.lq_types_rules.specs.Visits.Laws.{slot_count}
use Rattle.lq_base_names.specs.declared.name.Binder.{Binder}
use Rattle.lq_text_walk.specs.Scoped.Whole.{scoped_view}
use Rattle.lq_types_table.specs.Whole.{types_of}
use Rattle.lq_types_rules.specs.Typings.Principal.{node_count}
use Rattle.lq_text_walk.specs.Walk.Pending.{left}
use Rattle.lq_text_walk.specs.Walk.Visits.{visits_of_items}
use Rattle.lq_types_infer.specs.Annotation.Slots.{slot_types}
use Rattle.lq_types_infer.proofs.AnnotationLemmas.Refusing.{LargeLeft}
use Rattle.lq_types_infer.proofs.annotation.refusals.first_large.Given as goal

abbrev pub invariant-loop-walk : goal.invariant-loop-walk
invariant-loop-walk l =
    LargeLeft (node_count (scoped_view l.program)) (slot_count (scoped_view l.program)) (slot_types (types_of l.table) l.rows)
    (visits_of_items (scoped_view l.program).items) (left Binder (λ b. b.0) l.walk)

abbrev pub decreases-loop-walk : goal.decreases-loop-walk
decreases-loop-walk l = length (left Binder (λ b. b.0) l.walk)
