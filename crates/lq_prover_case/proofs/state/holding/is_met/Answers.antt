use Rattle.std.proofs.Common.{◌≡◌, Bool, true, false, not, MatchBool, subst}
use Rattle.std.specs.Ordering.{MatchOrdering}
use Rattle.std.specs.declared.cmp.Ordering.{Ordering}
use Rattle.std.specs.declared.cmp.Ordering.TheVariants.{Less, Equal, Greater}
use Rattle.lq_base_numbers.specs.Rationals.Rational.{ℚ}
use Rattle.lq_base_numbers.specs.Rationals.RationalOrder.{◌≤ℚ◌, ◌<ℚ◌}
use Rattle.lq_base_numbers.specs.Rationals.OrderLaws.{≤ℚ_from_below, ≤ℚ_from_same}
use Rattle.lq_base_numbers.specs.Fractions.Value.{value_of}
use Rattle.lq_prover_case.proofs.state.holding.is_met.Goals as goal

met_below : (o : Ordering) (x z : ℚ) (equal : Bool) → o ≡ Less → MatchOrdering o (x <ℚ z) (x ≡ z) (z <ℚ x) → not equal ≡ true → MatchBool equal (x ≡ z) (x ≤ℚ z)
met_below Less x z true e h k = absurd (cc)
met_below Less x z false e h k = ≤ℚ_from_below x z h
met_below Equal x z equal e h k = absurd (cc)
met_below Greater x z equal e h k = absurd (cc)

met_at : (o : Ordering) (x z : ℚ) (equal : Bool) → o ≡ Equal → MatchOrdering o (x <ℚ z) (x ≡ z) (z <ℚ x) → MatchBool equal (x ≡ z) (x ≤ℚ z)
met_at Equal x z true e h = h
met_at Equal x z false e h = ≤ℚ_from_same x z h
met_at Less x z equal e h = absurd (cc)
met_at Greater x z equal e h = absurd (cc)

pub returns-in-Less : goal.returns-in-Less
returns-in-Less c = λ k.
    subst (λ z. MatchBool c.args.equal (value_of c.args.level.now ≡ z) (value_of c.args.level.now ≤ℚ z)) c.whole.ensures.value
    (met_below c.cmp.result (value_of c.args.level.now) (value_of c.whole.result) c.args.equal c.in-Less.is c.cmp.ensures.order k)

pub returns-in-Equal : goal.returns-in-Equal
returns-in-Equal c = λ k.
    subst (λ z. MatchBool c.args.equal (value_of c.args.level.now ≡ z) (value_of c.args.level.now ≤ℚ z)) c.whole.ensures.value
    (met_at c.cmp.result (value_of c.args.level.now) (value_of c.whole.result) c.args.equal c.in-Equal.is c.cmp.ensures.order)
