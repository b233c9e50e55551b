use Rattle.std.specs.Int.{w128}
use Rattle.std.proofs.lemmas.Nat.Bits.{bit_at-trailing_zeros}
use Rattle.lq_base_numbers.proofs.FractionsLemmas.Twos.{doubled_again}
use Rattle.lq_base_numbers.proofs.fractions.divisor.long_odd_part.Goals as goal

pub returns-clause-odd : goal.returns-clause-odd
returns-clause-odd c = (bit_at-trailing_zeros w128 c.args.a c.requires c.ranges.a.fits).1

pub returns-clause-times : goal.returns-clause-times
returns-clause-times c = doubled_again _ c.args.a (bit_at-trailing_zeros w128 c.args.a c.requires c.ranges.a.fits).2
