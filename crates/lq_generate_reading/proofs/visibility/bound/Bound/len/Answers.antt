use Rattle.std.proofs.Common.{[], arith}
use Rattle.lq_generate_reading.proofs.VisibilityLemmas.Names.{length-stacked}
use Rattle.lq_generate_reading.proofs.visibility.bound.Bound.len.Goals as goal

pub returns : goal.returns
returns c =
    let k = length-stacked [] c.args.self.now.entries.items in let e = c.args.self.now.entries.ok in omega (arith, k, e.0)
