use Rattle.std.proofs.Common.{sym, ap, subst, ◌∙◌}
use Rattle.lq_types_rules.specs.Visits.Laws.{slot_count}
use Rattle.lq_base_names.specs.declared.name.Binder.{Binder}
use Rattle.lq_types_rules.specs.Equations.Gathered.{VisitIn}
use Rattle.lq_text_walk.specs.Scoped.Whole.{scoped_view}
use Rattle.lq_types_table.specs.Whole.{types_of}
use Rattle.lq_types_rules.specs.Typings.Principal.{node_count, counted, first_past, placed_at}
use Rattle.lq_text_walk.specs.Walk.Pending.{left, visit_view}
use Rattle.lq_text_walk.specs.Walk.Visits.{visits_of_items}
use Rattle.lq_types_infer.specs.Annotation.Slots.{slot_types}
use Rattle.lq_types_infer.proofs.AnnotationLemmas.Refusing.{large_start, large_in, large_next, none_of, measured_rows}
use Rattle.lq_types_infer.proofs.annotation.refusals.first_large.Goals as goal

pub loop-walk-init : goal.loop-walk-init
loop-walk-init c =
    let s = scoped_view c.args.program.now in
    large_start (node_count s) (slot_count s) (slot_types (types_of c.args.table.now) c.args.rows.now) (visits_of_items s.items)
    (left Binder (λ b. b.0) c.in_ok-walk.walk) (c.in_ok-walk.ensures ∙ ap visits_of_items c.items.ensures.items)
    (c.scoped_visits_are_in.ensures s c.items.ensures.scoped)

pub large_left-large-requires-clause-visit : goal.large_left-large-requires-clause-visit
large_left-large-requires-clause-visit c =
    let s = scoped_view c.args.program.now in
    let visit = visit_view Binder (λ b. b.0) c.in-Some.visit in
    let e = c.next.ensures.next c.in-Some.visit (let a = c.in_ok-visit.was in let b = c.in-Some.is in cc) in (
      node_count s,
      subst (λ n. VisitIn (node_count s) n visit) (sym c.requires.rows.long)
          (large_in (node_count s) (slot_count s) (slot_types (types_of c.args.table.now) c.args.rows.now) (visits_of_items s.items)
          (left Binder (λ b. b.0) c.loop-walk.walk) visit (left Binder (λ b. b.0) c.next.new.self) e c.loop-walk.invariant),
    )

pub large_left-large-requires-clause-rows : goal.large_left-large-requires-clause-rows
large_left-large-requires-clause-rows c =
    measured_rows counted (types_of c.args.table.now) c.args.rows.now c.deref.result.now (c.deref.ensures.value ∙ c.requires.measured)
    c.requires.rows.inside

pub loop-walk-preserved : goal.loop-walk-preserved
loop-walk-preserved c =
    let s = scoped_view c.args.program.now in
    let types = slot_types (types_of c.args.table.now) c.args.rows.now in
    let visit = visit_view Binder (λ b. b.0) c.in-Some.visit in
    let e = c.next.ensures.next c.in-Some.visit (let a = c.in_ok-visit.was in let b = c.in-Some.is in cc) in
    large_next (node_count s) (slot_count s) types (visits_of_items s.items)
    (left Binder (λ b. b.0) c.loop-walk.walk) visit (left Binder (λ b. b.0) c.next.new.self) e c.loop-walk.invariant
    (none_of c.large_left-large.result (first_past types (placed_at visit)) (sym c.is_some.ensures ∙ c.if-is_some.false)
    (c.large_left-large.ensures (types_of c.args.table.now) (c.deref.ensures.value ∙ c.requires.measured)))
