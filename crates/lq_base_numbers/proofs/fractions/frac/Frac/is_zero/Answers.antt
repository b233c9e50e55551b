use Rattle.std.proofs.Common.{rules, FitsSigned}
use Rattle.std.specs.Int.{w128}
use Rattle.lq_base_numbers.proofs.FractionsLemmas.Orders.{zero_test}
use Rattle.lq_base_numbers.proofs.fractions.frac.Frac.is_zero.Goals as goal

pub returns : goal.returns
returns c =
    let f : FitsSigned w128 c.args.self.now.numer = search rules in
    zero_test c.args.self.now.numer c.args.self.now.denom f c.args.self.now.positive
