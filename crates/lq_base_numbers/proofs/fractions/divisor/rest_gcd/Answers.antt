use Rattle.std.proofs.lemmas.Nat.Gcd.{IsGcd-from_zero, IsGcd-from_mod}
use Rattle.lq_base_numbers.proofs.fractions.divisor.rest_gcd.Goals as goal

pub returns-then-b-eq0 : goal.returns-then-b-eq0
returns-then-b-eq0 c = IsGcd-from_zero _ _ c.if-b-eq0.true

pub returns-else-b-eq0 : goal.returns-else-b-eq0
returns-else-b-eq0 c = IsGcd-from_mod _ _ _ c.small_gcd.ensures
