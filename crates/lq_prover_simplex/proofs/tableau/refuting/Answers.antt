use Rattle.lq_base_numbers.specs.Fractions.Value.{value_of}
use Rattle.lq_prover_simplex.proofs.Tables.{refuting_above, refuting_below, one_fair, bare_equal, bare_at_most, above_read, below_read, not_above_read, not_below_read}
use Rattle.lq_prover_simplex.proofs.tableau.refuting.Goals as goal
use Rattle.lq_prover_simplex.proofs.tableau.refuting.Goals.{else-equal-via-then-equal+else-constant-lt0, else-equal-via-else-equal}

pub returns-then-constant-gt0-clause-above : goal.returns-then-constant-gt0-clause-above
returns-then-constant-gt0-clause-above c = refuting_above c.args.constant (value_of c.whole.result) c.whole.ensures.value (above_read c.args.constant c.ranges.constant c.if-constant-gt0.true)

pub returns-then-constant-gt0-clause-fair : goal.returns-then-constant-gt0-clause-fair
returns-then-constant-gt0-clause-fair c = one_fair c.args.equal (value_of c.whole.result) c.whole.ensures.value

pub returns-then-constant-lt0-clause-above : goal.returns-then-constant-lt0-clause-above
returns-then-constant-lt0-clause-above c =
    refuting_below c.args.constant (value_of c.whole-then-constant-lt0.result) c.whole-then-constant-lt0.ensures.value (below_read c.args.constant c.ranges.constant c.if-constant-lt0.true)

pub returns-else-equal-clause-none : goal.returns-else-equal-clause-none
returns-else-equal-clause-none c =
    let most = not_above_read c.args.constant c.ranges.constant c.if-constant-gt0.false in
    elim c.else-equal.branch [
      | else-equal-via-then-equal+else-constant-lt0 w ↦ rw w.if-equal.true (bare_equal c.args.constant most (not_below_read c.args.constant c.ranges.constant w.if-constant-lt0.false))
      | else-equal-via-else-equal w ↦ rw w.if-equal.false (bare_at_most c.args.constant most)
    ]
