use Rattle.std.proofs.Common.{◌+◌, ◌-◌, drop, arith}
use Rattle.lq_text_walk.specs.Scoped.Whole.{scoped_view}
use Rattle.lq_types_table.specs.Whole.{types_of}
use Rattle.lq_types_infer.specs.Annotation.Slots.{slot_types}
use Rattle.lq_types_infer.specs.Annotation.Numbering.{behind_items}
use Rattle.lq_types_rules.specs.Typings.Principal.{node_count}
use Rattle.lq_types_infer.proofs.AnnotationLemmas.Owners.{next_is, slots_in, item_next}
use Rattle.lq_types_infer.proofs.annotation.numbering.names_of.Goals as goal

pub name_item-requires-clause-slots : goal.name_item-requires-clause-slots
name_item-requires-clause-slots c =
    let s = scoped_view c.args.program.now in
    let k = c.loop-at.at in
    let own = c.scoped_items_own_slots.ensures s c.items-items.ensures.scoped in
    let here = next_is c.items-items.result.now s.items k c.loop-at-test.true c.items-items.ensures.items in
    slots_in s (types_of c.args.table.now) c.args.rows.now own.0 own.1 c.requires.rows k c.args.nodes here.item (drop (k + 1) s.items) here.first
    c.requires.nodes c.deref.result.now c.in_ok-slots.slots.items c.deref.ensures.value
    (c.in_ok-slots.ensures here.item (here.alone (k + 1 - k) (omega arith)))

pub loop-at-preserved : goal.loop-at-preserved
loop-at-preserved c =
    let s = scoped_view c.args.program.now in
    let k = c.loop-at.at in
    let types = slot_types (types_of c.args.table.now) c.args.rows.now in
    let here = next_is c.items-items.result.now s.items k c.loop-at-test.true c.items-items.ensures.items in
    let before = c.loop-at.invariant.1 in (
      c.in_ok-name_item.ensures.naming,
      (
        before.0,
        before.1,
        item_next s types c.loop-at.naming.names.items c.name_item.new.self.names.items (behind_items (node_count s) types before.0 s.items) k
            c.args.nodes here.item (drop (k + 1) s.items) here.first c.requires.nodes c.deref.result.now c.in_ok-slots.slots.items
            c.deref.ensures.value (c.in_ok-slots.ensures here.item (here.alone (k + 1 - k) (omega arith))) c.in_ok-name_item.ensures.names before.2,
      ),
    )
