use Rattle.std.proofs.Common.{reverse}
use Rattle.lq_text_grammar.proofs.States.{State, left_over, opening}
use Rattle.lq_text_grammar.proofs.reader.read.Given as goal

abbrev pub invariant-loop-symbol : goal.invariant-loop-symbol
invariant-loop-symbol l = State (opening (reverse l.initial.stack.items)) l.limit l.kinds (reverse l.stack.items) l.events.items l.at l.level

abbrev pub decreases-loop-symbol : goal.decreases-loop-symbol
decreases-loop-symbol l = left_over l.kinds (reverse l.stack.items) l.at
