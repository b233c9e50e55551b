use Rattle.std.proofs.Common.{◌≡◌, ◌≤◌, ◌-◌, length, take}
use Rattle.lq_text_lexer.specs.Reading.{tokens_of}
use Rattle.lq_text_parser.specs.Parse.Terminals.{kinds_of}
use Rattle.lq_text_parser.proofs.parse.terminals.kinds_of.Given as goal

abbrev pub invariant-loop-token : goal.invariant-loop-token
invariant-loop-token l = (l.at ≤ length (tokens_of l.tokens)) × (l.kinds.items ≡ kinds_of l.text (take l.at (tokens_of l.tokens)))

abbrev pub decreases-loop-token : goal.decreases-loop-token
decreases-loop-token l = length (tokens_of l.tokens) - l.at
