use Rattle.std.proofs.Common.{◌∙◌, sym, ap}
use Rattle.lq_logic_rows.specs.declared.bound.Side.TheVariants.{Upper}
use Rattle.lq_prover_simplex.specs.Bounds.{limit_at}
use Rattle.lq_prover_simplex.proofs.limits.Limits.crossed.Goals as goal

pub returns-in-Some-broken_on-clause-some : goal.returns-in-Some-broken_on-clause-some
returns-in-Some-broken_on-clause-some c =
    let e = c.in-Some-broken_on.ensures.some in
    (c.in-Some.upper, e.1, ap (limit_at c.args.self.now Upper) e.0 ∙ sym c.in-Some.ensures, e.2)
