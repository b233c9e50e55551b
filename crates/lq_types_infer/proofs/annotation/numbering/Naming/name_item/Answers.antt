use Rattle.lq_types_table.specs.Whole.{types_of}
use Rattle.lq_types_infer.specs.Annotation.Numbering.{numbers_of, numbers_from_zero, with_numbers}
use Rattle.lq_types_rules.specs.Typings.Principal.{variables_at}
use Rattle.lq_types_infer.specs.Annotation.Slots.{slot_types}
use Rattle.lq_types_infer.proofs.AnnotationLemmas.Numbers.{slot_next}
use Rattle.lq_types_infer.proofs.annotation.numbering.Naming.name_item.Goals as goal

pub loop-slot-preserved : goal.loop-slot-preserved
loop-slot-preserved c =
    let types = slot_types (types_of c.args.table.now) c.args.rows.now in
    let i = c.loop-slot.slot-index in
    let whole = with_numbers (numbers_from_zero c.args.self.now.names.items) (variables_at types c.args.slots.now) in
    record {
      goes = slot_next types (numbers_of c.loop-slot.self) (numbers_of c.name_slot.new.self) whole c.args.slots.now i 0 c.loop-slot-test.true
          c.in_ok-name_slot.ensures.numbers c.loop-slot.invariant.goes;
      naming = c.in_ok-name_slot.ensures.naming;
    }
