use Rattle.lq_generate_reading.specs.Notes.Slots.{HasSlots}
use Rattle.lq_generate_reading.proofs.notes.noted.node_types.Given as goal

abbrev pub invariant-loop-at : goal.invariant-loop-at
invariant-loop-at l = HasSlots l.annotated l.at l.slots.items
