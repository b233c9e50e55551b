use Rattle.std.proofs.Common.{rules, FitsSigned}
use Rattle.std.specs.Int.{w128}
use Rattle.lq_base_numbers.proofs.FractionsLemmas.Multiples.{IfNone-any, over, not_over, fits_read}
use Rattle.lq_base_numbers.proofs.fractions.frac.Frac.over_multiple.Goals as goal

pub returns-in_err-denom-clause-none : goal.returns-in_err-denom-clause-none
returns-in_err-denom-clause-none c =
    IfNone-any _ _
    (not_over _ _ _ _ _ _ _ c.args.self.now.positive c.args.other.now.positive c.gcd-shared.ensures c.quotient-left.ensures c.quotient-right.ensures (λ f. c.in_err-denom.ensures f.0))

pub returns-in_err-first-clause-none : goal.returns-in_err-first-clause-none
returns-in_err-first-clause-none c =
    let fits : FitsSigned w128 c.args.self.now.numer = search rules in
    IfNone-any _ _
    (not_over c.args.self.now.numer c.args.other.now.numer _ _ _ _ _ c.args.self.now.positive c.args.other.now.positive c.gcd-shared.ensures c.quotient-left.ensures c.quotient-right.ensures
    (λ f. c.in_err-first.ensures (fits_read _ _ fits f.1)))

pub returns-in_err-second-clause-none : goal.returns-in_err-second-clause-none
returns-in_err-second-clause-none c =
    let fits : FitsSigned w128 c.args.other.now.numer = search rules in
    IfNone-any _ _
    (not_over c.args.self.now.numer c.args.other.now.numer _ _ _ _ _ c.args.self.now.positive c.args.other.now.positive c.gcd-shared.ensures c.quotient-left.ensures c.quotient-right.ensures
    (λ f. c.in_err-second.ensures (fits_read _ _ fits f.2)))

pub returns-clause-some : goal.returns-clause-some
returns-clause-some c =
    let fits : FitsSigned w128 c.args.self.now.numer = search rules in
    let fits' : FitsSigned w128 c.args.other.now.numer = search rules in
    over _ _ _ _ c.gcd-shared.result _ _ _ _ _ fits fits' c.args.self.now.positive c.args.other.now.positive c.gcd-shared.ensures c.quotient-left.ensures c.quotient-right.ensures
    c.in_ok-denom.ensures c.in_ok-first.ensures c.in_ok-second.ensures
