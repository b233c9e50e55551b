use Rattle.std.proofs.Common.{take}
use Rattle.lq_refined_templates.specs.Points.Seen.{all_seen}
use Rattle.lq_generate_reading.specs.Visibility.Stack.{names_view}
use Rattle.lq_generate_reading.specs.Reading.Names.{Sees}
use Rattle.lq_generate_reading.specs.Reading.State.{seen_of}
use Rattle.lq_generate_reading.proofs.reading.state.State.bind_all.Given as goal

abbrev pub invariant-loop-name : goal.invariant-loop-name
invariant-loop-name l = Sees l.notes l.initial.self l.self (all_seen (names_view (take l.name-index l.names)) (seen_of l.initial.self))
