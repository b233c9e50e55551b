use Rattle.std.proofs.Math.Nat.{eq-one_of_dvd-one}
use Rattle.lq_base_numbers.proofs.fractions.frac.Frac.whole.Goals as goal

pub invariant_of-result-clause-lowest : goal.invariant_of-result-clause-lowest
invariant_of-result-clause-lowest c k p q = eq-one_of_dvd-one q
