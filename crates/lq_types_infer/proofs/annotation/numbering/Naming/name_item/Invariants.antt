use Rattle.std.proofs.Common.{◌≡◌, drop}
use Rattle.lq_types_table.specs.Whole.{types_of}
use Rattle.lq_types_rules.specs.Typings.Principal.{variables_at}
use Rattle.lq_types_infer.specs.Annotation.Numbering.{numbers_of, numbers_from_zero, with_numbers, IsNaming}
use Rattle.lq_types_infer.specs.Annotation.Slots.{slot_types}
use Rattle.lq_types_infer.proofs.annotation.numbering.Naming.name_item.Given as goal

abbrev pub invariant-loop-slot : goal.invariant-loop-slot
invariant-loop-slot l = record {
  goes : with_numbers (numbers_of l.self) (variables_at (slot_types (types_of l.table) l.rows) (drop l.slot-index l.slots))
      ≡ with_numbers (numbers_from_zero l.fn.self.names.items) (variables_at (slot_types (types_of l.table) l.rows) l.slots);
  naming : IsNaming (types_of l.table) l.self;
}
