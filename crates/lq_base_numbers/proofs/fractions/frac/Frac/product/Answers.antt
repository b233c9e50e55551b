use Rattle.std.proofs.Common.{◌*◌, ◌<◌, ◌^◌, ap₂, sym, subst, ◌∙◌, FitsSigned}
use Rattle.std.proofs.Math.Nat.{pos_of_dvd_of_pos}
use Rattle.std.specs.Int.{w128}
use Rattle.lq_base_numbers.specs.Fractions.Sign.{signed}
use Rattle.lq_base_numbers.proofs.FractionsLemmas.Multiples.{IfNone-any}
use Rattle.lq_base_numbers.proofs.FractionsLemmas.Products.{lowest_product_by, past_product_by, size_fits}
use Rattle.lq_base_numbers.proofs.fractions.frac.Frac.product.Goals as goal

pub quotient-first_numer-requires : goal.quotient-first_numer-requires
quotient-first_numer-requires c = pos_of_dvd_of_pos c.gcd-left.ensures.1 c.requires.second

pub quotient-second_numer-requires : goal.quotient-second_numer-requires
quotient-second_numer-requires c = pos_of_dvd_of_pos c.gcd-right.ensures.1 c.requires.first

pub quotient-first_denom-requires : goal.quotient-first_denom-requires
quotient-first_denom-requires c = pos_of_dvd_of_pos c.gcd-right.ensures.1 c.requires.first

pub quotient-second_denom-requires : goal.quotient-second_denom-requires
quotient-second_denom-requires c = pos_of_dvd_of_pos c.gcd-left.ensures.1 c.requires.second

pub returns-in_err-size-clause-none : goal.returns-in_err-size-clause-none
returns-in_err-size-clause-none c =
    IfNone-any _ _
    (past_product_by c.args.negative _ _ _ _ _ _ _ _ c.requires.first c.requires.second c.requires.first_lowest c.requires.second_lowest
    c.gcd-left.ensures c.gcd-right.ensures
    (ap₂ (λ x y. x * y) c.quotient-first_numer.ensures c.quotient-second_numer.ensures)
    (ap₂ (λ x y. x * y) c.quotient-first_denom.ensures c.quotient-second_denom.ensures)
    (λ f. c.in_err-size.ensures (size_fits c.args.negative _ f.0)))

pub returns-in_err-numer-clause-none : goal.returns-in_err-numer-clause-none
returns-in_err-numer-clause-none c =
    IfNone-any _ _
    (past_product_by c.args.negative _ _ _ _ _ _ _ _ c.requires.first c.requires.second c.requires.first_lowest c.requires.second_lowest
    c.gcd-left.ensures c.gcd-right.ensures
    (ap₂ (λ x y. x * y) c.quotient-first_numer.ensures c.quotient-second_numer.ensures)
    (ap₂ (λ x y. x * y) c.quotient-first_denom.ensures c.quotient-second_denom.ensures)
    (λ f. c.in_err-numer.ensures (subst (λ z. FitsSigned w128 (signed c.args.negative z)) (sym c.in_ok-size.ensures.1) f.0)))

pub returns-in_err-denom-clause-none : goal.returns-in_err-denom-clause-none
returns-in_err-denom-clause-none c =
    IfNone-any _ _
    (past_product_by c.args.negative _ _ _ _ _ _ _ _ c.requires.first c.requires.second c.requires.first_lowest c.requires.second_lowest
    c.gcd-left.ensures c.gcd-right.ensures
    (ap₂ (λ x y. x * y) c.quotient-first_numer.ensures c.quotient-second_numer.ensures)
    (ap₂ (λ x y. x * y) c.quotient-first_denom.ensures c.quotient-second_denom.ensures)
    (λ f. c.in_err-denom.ensures f.1))

pub invariant_of-result : goal.invariant_of-result
invariant_of-result c =
    let r = lowest_product_by c.args.negative _ _ _ _ _ _ c.in_ok-size.size c.in_ok-denom.denom c.in_ok-numer.numer c.requires.first c.requires.second
    c.requires.first_lowest c.requires.second_lowest c.gcd-left.ensures c.gcd-right.ensures
    (c.in_ok-size.ensures.1 ∙ ap₂ (λ x y. x * y) c.quotient-first_numer.ensures c.quotient-second_numer.ensures) c.in_ok-numer.ensures
    (c.in_ok-denom.ensures.1 ∙ ap₂ (λ x y. x * y) c.quotient-first_denom.ensures c.quotient-second_denom.ensures) in
    record { positive = r.positive; small = subst (λ x. x < 2 ^ 127) (sym c.in_ok-denom.ensures.1) c.in_ok-denom.ensures.0; lowest = r.lowest }

pub returns-clause-some : goal.returns-clause-some
returns-clause-some c =
    (lowest_product_by c.args.negative _ _ _ _ _ _ c.in_ok-size.size c.in_ok-denom.denom c.in_ok-numer.numer c.requires.first c.requires.second
    c.requires.first_lowest c.requires.second_lowest c.gcd-left.ensures c.gcd-right.ensures
    (c.in_ok-size.ensures.1 ∙ ap₂ (λ x y. x * y) c.quotient-first_numer.ensures c.quotient-second_numer.ensures) c.in_ok-numer.ensures
    (c.in_ok-denom.ensures.1 ∙ ap₂ (λ x y. x * y) c.quotient-first_denom.ensures c.quotient-second_denom.ensures)).same
