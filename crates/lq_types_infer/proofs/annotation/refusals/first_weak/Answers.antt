use Rattle.std.proofs.Common.{drop, ◌+◌, sym, subst, ◌∙◌}
use Rattle.lq_types_rules.specs.Visits.Laws.{slot_count}
use Rattle.lq_types_rules.specs.Equations.Within.{ItemIn}
use Rattle.lq_text_walk.specs.Scoped.Whole.{scoped_view}
use Rattle.lq_types_table.specs.Whole.{types_of}
use Rattle.lq_types_rules.specs.Typings.Principal.{node_count}
use Rattle.lq_types_infer.specs.Annotation.Slots.{slot_types}
use Rattle.lq_types_infer.proofs.AnnotationLemmas.Refusing.{view, views, rest_behind, weak_start, weak_in, weak_next}
use Rattle.lq_types_infer.proofs.annotation.refusals.first_weak.Goals as goal

pub loop-item-init : goal.loop-item-init
loop-item-init c =
    let s = scoped_view c.args.program.now in
    weak_start (node_count s) (slot_count s) (slot_types (types_of c.args.table.now) c.args.rows.now) s.items (views c.items-item-items.result.now)
    c.items-item-items.ensures.items (c.scoped_visits_are_in.ensures s c.items-item-items.ensures.scoped)

pub is_weak-requires-clause-item : goal.is_weak-requires-clause-item
is_weak-requires-clause-item c =
    let s = scoped_view c.args.program.now in
    let items = c.items-item-items.result.now in
    let here = view c.item-item.result in (
      node_count s,
      subst (λ n. ItemIn (node_count s) n here.form) (sym c.requires.rows.long)
          (weak_in (node_count s) (slot_count s) (slot_types (types_of c.args.table.now) c.args.rows.now) s.items
          (views (drop c.loop-item.item-index items)) here (views (drop (c.loop-item.item-index + 1) items))
          (rest_behind items c.loop-item.item-index c.item-item.result c.loop-item-test.true c.item-item.is) c.loop-item.invariant),
    )

pub loop-item-preserved : goal.loop-item-preserved
loop-item-preserved c =
    let s = scoped_view c.args.program.now in
    let items = c.items-item-items.result.now in
    weak_next (node_count s) (slot_count s) (slot_types (types_of c.args.table.now) c.args.rows.now) s.items
    (views (drop c.loop-item.item-index items)) (view c.item-item.result) (views (drop (c.loop-item.item-index + 1) items))
    (rest_behind items c.loop-item.item-index c.item-item.result c.loop-item-test.true c.item-item.is) c.loop-item.invariant
    (sym (c.in_ok-is_weak.ensures (types_of c.args.table.now) (c.deref.ensures.value ∙ c.requires.measured)) ∙ c.if-branch.false)
