use Rattle.std.proofs.Common.{sym, ap, ◌∙◌, Some, below_more, arith}
use Rattle.std.proofs.lemmas.Option.{slice_get-get_or}
use Rattle.lq_prover_simplex.specs.declared.line.Entry.{Entry}
use Rattle.lq_prover_simplex.proofs.Combinations.{variable_of, found_factor, factor_absent}
use Rattle.lq_prover_simplex.proofs.fractions.factor.Goals as goal

pub returns-then-entry-variable-clause-some : goal.returns-then-entry-variable-clause-some
returns-then-entry-variable-clause-some c =
    found_factor c.args.entries.now c.loop-entry.entry-index c.args.variable c.entry-item.result c.requires
    (slice_get-get_or c.args.entries.now c.loop-entry.entry-index c.entry-item.result c.loop-entry-test.true ∙ ap Some (sym c.entry-item.is))
    c.if-entry-variable.true

pub loop-entry-preserved : goal.loop-entry-preserved
loop-entry-preserved c =
    below_more _ _ c.loop-entry.invariant
    (λ e. c.if-entry-variable.false
    (ap (λ (x : Entry). x.variable) c.entry-item.is ∙ sym (variable_of c.args.entries.now c.loop-entry.entry-index c.entry-item.result c.loop-entry-test.true) ∙ e))

pub returns-clause-none : goal.returns-clause-none
returns-clause-none c = factor_absent c.args.entries.now c.args.variable (λ j h. c.loop-entry.invariant j (let e = c.loop-entry-test.false in omega arith))
