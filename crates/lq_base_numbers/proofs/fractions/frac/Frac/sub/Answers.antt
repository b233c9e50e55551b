use Rattle.std.proofs.Common.{◌∙◌}
use Rattle.std.proofs.Math.IntN.{◌-ℤ◌}
use Rattle.lq_base_numbers.proofs.FractionsLemmas.Multiples.{has_form, has_no_form, difference_value}
use Rattle.std.proofs.lemmas.Nat.Gcd.{dvd_trans}
use Rattle.lq_base_numbers.proofs.FractionsLemmas.Shared.{total_within, difference_sizes}
use Rattle.lq_base_numbers.proofs.fractions.frac.Frac.sub.Goals as goal

pub returns-in_default-clause-past : goal.returns-in_default-clause-past
returns-in_default-clause-past c = c.in_default.ensures.none (λ x y. x -ℤ y)

pub returns-in_default-checked_sub-clause-past : goal.returns-in_default-checked_sub-clause-past
returns-in_default-checked_sub-clause-past c =
    has_no_form (λ x y. x -ℤ y) _ _ _ _ _ _ _ c.in-Some.ensures.some c.in_default-checked_sub.ensures

pub returns-clause-exact : goal.returns-clause-exact
returns-clause-exact c =
    c.reduced.ensures
    ∙ difference_value _ _ _ _ _ _ _ _ c.args.self.now.positive c.args.other.now.positive c.in-Some.ensures.some c.in-Some-checked_sub.ensures

pub returns-clause-formed : goal.returns-clause-formed
returns-clause-formed c = has_form (λ x y. x -ℤ y) _ _ _ _ _ _ _ c.in-Some.ensures.some c.in-Some-checked_sub.ensures.0

pub reduced-requires-clause-part : goal.reduced-requires-clause-part
reduced-requires-clause-part c = dvd_trans _ c.in-Some.ensures.shared.0 c.in-Some.ensures.some.least.0

pub reduced-requires-clause-within : goal.reduced-requires-clause-within
reduced-requires-clause-within c =
    total_within (λ x y. x -ℤ y) difference_sizes c.args.self.now.numer c.args.other.now.numer _ _ _ _ _ _ _ c.args.self.now.positive c.args.other.now.positive
    c.args.self.now.lowest c.args.other.now.lowest c.in-Some.ensures.shared c.in-Some.ensures.some c.in-Some-checked_sub.ensures
