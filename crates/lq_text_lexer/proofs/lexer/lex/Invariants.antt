use Rattle.std.proofs.Common.{◌-◌, length, drop}
use Rattle.lq_text_lexer.specs.Places.{StandsAt}
use Rattle.lq_text_lexer.specs.Reading.{Reads}
use Rattle.lq_text_lexer.proofs.lexer.lex.Given as goal

-- the text up to the cursor is the tokens so far
pub record LexedTo (l : goal.Live-turns) : Type 0 where
  pub stands : StandsAt l.text l.cursor
  pub reads : Reads l.kind l.text l.text l.items.items (drop l.cursor.at l.text)

abbrev pub invariant-turns : goal.invariant-turns
invariant-turns l = LexedTo l

abbrev pub decreases-turns : goal.decreases-turns
decreases-turns l = length l.text - l.cursor.at
