use Rattle.std.proofs.Common.{◌≡◌, ◌+◌}
use Rattle.lq_text_lexer.specs.Places.{StandsAt}
use Rattle.lq_text_lexer.proofs.cursor.Cursor.behind.Given as goal

abbrev pub invariant-loop-count : goal.invariant-loop-count
invariant-loop-count l = StandsAt l.text l.cursor × (l.cursor.at ≡ l.fn.self.at + l.count)
