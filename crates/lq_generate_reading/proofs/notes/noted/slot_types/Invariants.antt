use Rattle.std.proofs.Common.{◌+◌}
use Rattle.lq_types_infer.specs.Annotation.Whole.{program_of}
use Rattle.lq_types_rules.specs.Typings.Principal.{node_count}
use Rattle.lq_generate_reading.specs.Notes.Slots.{HasSlots}
use Rattle.lq_generate_reading.proofs.notes.noted.slot_types.Given as goal

abbrev pub invariant-loop-at : goal.invariant-loop-at
invariant-loop-at l = HasSlots l.annotated (node_count (program_of l.annotated) + l.at) l.slots.items
