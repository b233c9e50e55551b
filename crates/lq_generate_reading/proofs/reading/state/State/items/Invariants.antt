use Rattle.std.proofs.Common.{drop}
use Rattle.lq_meaning_normal_tree.specs.BlockView.{definitions_view}
use Rattle.lq_generate_reading.specs.Reading.Items.{items_onto, program_read}
use Rattle.lq_generate_reading.specs.Reading.Through.{Through}
use Rattle.lq_generate_reading.proofs.reading.state.State.items.Given as goal

abbrev pub invariant-loop-definition : goal.invariant-loop-definition
invariant-loop-definition l =
    Through l.notes l.initial.self l.self (items_onto l.made.items) (program_read l.notes l.initial.self (definitions_view l.definitions))
    (program_read l.notes l.self (definitions_view (drop l.definition-index l.definitions)))
