use Rattle.std.proofs.Common.{refl, sym, ap, ◌∙◌}
use Rattle.lq_prover_simplex.specs.declared.line.Entry.{Entry}
use Rattle.lq_prover_simplex.proofs.Combinations.{variable_of}
use Rattle.lq_prover_simplex.proofs.fractions.head.Goals as goal

pub returns-else-entry-sought : goal.returns-else-entry-sought
returns-else-entry-sought c = (
  refl,
  λ h e. c.if-entry-sought.false
      (ap (λ (x : Entry). x.variable) c.index-entries-at.is ∙ sym (variable_of c.args.entries.now c.args.at c.index-entries-at.result h) ∙ e),
)
