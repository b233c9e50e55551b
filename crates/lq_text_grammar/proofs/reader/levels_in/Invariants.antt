use Rattle.std.proofs.Common.{◌≡◌, ◌≤◌, ◌+◌, drop}
use Rattle.lq_text_grammar.specs.Levels.{depth}
use Rattle.lq_text_grammar.proofs.reader.levels_in.Given as goal

abbrev pub invariant-loop-symbol : goal.invariant-loop-symbol
invariant-loop-symbol l = (l.levels ≤ l.symbol-index) × (l.levels + depth (drop l.symbol-index l.body) ≡ depth l.body)
