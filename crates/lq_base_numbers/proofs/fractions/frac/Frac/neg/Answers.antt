use Rattle.std.proofs.Common.{rules, FitsSigned}
use Rattle.std.specs.Int.{w128}
use Rattle.lq_base_numbers.proofs.FractionsLemmas.Products.{negation_value, past_negation}
use Rattle.lq_base_numbers.proofs.fractions.frac.Frac.neg.Goals as goal

pub returns-in-Some-clause-exact : goal.returns-in-Some-clause-exact
returns-in-Some-clause-exact c =
    let fits : FitsSigned w128 c.args.self.now.numer = search rules in
    negation_value c.args.self.now.numer c.in-Some.numer c.args.self.now.denom c.args.self.now.positive c.args.self.now.lowest fits c.in-Some.ensures

pub returns-in-None-clause-past : goal.returns-in-None-clause-past
returns-in-None-clause-past c =
    let fits : FitsSigned w128 c.args.self.now.numer = search rules in
    past_negation c.args.self.now.numer c.args.self.now.denom c.args.self.now.positive c.args.self.now.lowest fits c.in-None.ensures
