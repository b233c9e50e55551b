use Rattle.std.proofs.Common.{◌≡◌, map, take}
use Rattle.lq_text_walk.specs.Scoped.Views.{source_view}
use Rattle.lq_text_walk.specs.Scoped.Whole.{scoped_view}
use Rattle.lq_generate_reading.proofs.notes.noted.source_names.Given as goal

abbrev pub invariant-loop-at : goal.invariant-loop-at
invariant-loop-at l = map source_view l.texts.items ≡ take l.at (scoped_view l.program).sources
