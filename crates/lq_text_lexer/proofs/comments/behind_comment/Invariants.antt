use Rattle.std.proofs.Common.{◌≤◌, ◌-◌, ◌+◌, length, drop}
use Rattle.lq_text_lexer.specs.Places.{StandsAt}
use Rattle.lq_text_lexer.proofs.Ends.{SameEnds}
use Rattle.lq_text_lexer.proofs.comments.behind_comment.Given as goal

pub record Nested (l : goal.Live-nested) : Type 0 where
  pub stands : StandsAt l.text l.cursor
  pub further : l.fn.from.at ≤ l.cursor.at
  pub shallow : l.depth ≤ l.cursor.at + 1
  pub same : SameEnds l.depth (drop l.cursor.at l.text) 1 (drop l.fn.from.at l.text)

abbrev pub invariant-nested : goal.invariant-nested
invariant-nested l = Nested l

abbrev pub decreases-nested : goal.decreases-nested
decreases-nested l = length l.text - l.cursor.at
