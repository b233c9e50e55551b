use Rattle.lq_prover_simplex.proofs.Limiting.{admit_first, admit_tighter}
use Rattle.lq_prover_simplex.proofs.limits.tighter.Goals as goal
use Rattle.lq_prover_simplex.proofs.limits.tighter.Goals.{in-Some+else-not-breaks, in_default}

pub returns : goal.returns
returns c =
    let on = c.bounds.ensures.on c.if-not-bounds.false in
    elim c.match-old.branch [
      | in-Some+else-not-breaks w ↦ rw w.in-Some.is (admit_tighter c.args.side w.in-Some.limit c.args.row c.args.equal c.args.bound.now on (w.breaks.ensures.beyond w.if-not-breaks.false))
      | in_default w ↦ rw w.in_default.is (admit_first c.args.side c.args.row c.args.equal c.args.bound.now on)
    ]
