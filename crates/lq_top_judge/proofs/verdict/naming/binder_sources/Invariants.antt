use Rattle.std.proofs.Common.{◌≡◌, map, take}
use Rattle.lq_logic_text.specs.Views.{source_view}
use Rattle.lq_text_walk.specs.Scoped.Whole.{scoped_view}
use Rattle.lq_top_judge.proofs.verdict.naming.binder_sources.Given as goal

abbrev pub invariant-loop-at : goal.invariant-loop-at
invariant-loop-at l = map source_view l.names.items ≡ take l.at (scoped_view l.program).sources
