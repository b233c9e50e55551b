use Rattle.std.proofs.Common.{inl, inr}
use Rattle.std.proofs.lemmas.Nat.Gcd.{IsGcd-swap}
use Rattle.lq_base_numbers.proofs.FractionsLemmas.Twos.{one_first, one_second}
use Rattle.lq_base_numbers.proofs.fractions.divisor.gcd.Goals as goal

pub returns-then-b-eq1 : goal.returns-then-b-eq1
returns-then-b-eq1 c =
    elim c.if-b-eq1.either [ inl e ↦ one_first c.args.a c.args.b e | inr e ↦ one_second c.args.a c.args.b e.1 ]

pub returns-then-a-2 : goal.returns-then-a-2
returns-then-a-2 c = IsGcd-swap _ _ _ c.rest_gcd.ensures
