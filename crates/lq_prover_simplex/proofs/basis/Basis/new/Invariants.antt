use Rattle.lq_prover_simplex.proofs.Forms.{Start}
use Rattle.lq_prover_simplex.proofs.basis.Basis.new.Given as goal

abbrev pub invariant-loop-term : goal.invariant-loop-term
invariant-loop-term l = Start l.term l.forms.items l.lines.items l.values.items
