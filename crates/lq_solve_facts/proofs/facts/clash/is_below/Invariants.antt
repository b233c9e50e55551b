use Rattle.std.proofs.Common.{take}
use Rattle.lq_logic_rows.specs.Difference.{TermsBelow}
use Rattle.lq_solve_facts.proofs.facts.clash.is_below.Given as goal

abbrev pub invariant-loop-part : goal.invariant-loop-part
invariant-loop-part l = TermsBelow l.room (take l.part-index l.parts)
