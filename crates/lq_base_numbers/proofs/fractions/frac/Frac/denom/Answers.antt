use Rattle.lq_base_numbers.specs.Fractions.Value.{lowest_of}
use Rattle.lq_base_numbers.proofs.fractions.frac.Frac.denom.Goals as goal

pub returns-clause-lowest : goal.returns-clause-lowest
returns-clause-lowest c = lowest_of c.args.self.now
