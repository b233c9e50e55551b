use Rattle.std.proofs.Common.{rules, FitsSigned}
use Rattle.std.specs.Int.{w128}
use Rattle.lq_base_numbers.proofs.FractionsLemmas.Orders.{ordered_raw, same_fraction}
use Rattle.lq_base_numbers.proofs.fractions.frac.Frac.cmp.Goals as goal

pub returns-clause-order : goal.returns-clause-order
returns-clause-order c =
    let f : FitsSigned w128 c.args.self.now.numer = search rules in
    let g : FitsSigned w128 c.args.other.now.numer = search rules in
    ordered_raw _ _ _ _ _ f g c.args.self.now.positive c.args.other.now.positive c.compare.ensures

pub returns-clause-same : goal.returns-clause-same
returns-clause-same c =
    let f : FitsSigned w128 c.args.self.now.numer = search rules in
    let g : FitsSigned w128 c.args.other.now.numer = search rules in
    same_fraction c.compare.result c.args.self.now c.args.other.now
    (ordered_raw _ _ _ _ _ f g c.args.self.now.positive c.args.other.now.positive c.compare.ensures)
