use Rattle.std.proofs.Common.{rules, subst, ◌∙◌, FitsSigned}
use Rattle.std.specs.Int.{w128}
use Rattle.lq_base_numbers.specs.Rationals.NumberForms.{HasNoForm}
use Rattle.lq_base_numbers.proofs.FractionsLemmas.Products.{product_value}
use Rattle.lq_base_numbers.proofs.fractions.frac.Frac.mul.Goals as goal

pub returns-in-Some-clause-exact : goal.returns-in-Some-clause-exact
returns-in-Some-clause-exact c =
    let fits : FitsSigned w128 c.args.self.now.numer = search rules in
    let fits' : FitsSigned w128 c.args.other.now.numer = search rules in
    c.in-Some.ensures.some
    ∙ product_value c.args.self.now.numer c.args.other.now.numer _ _ _ _ _ c.args.self.now.positive c.args.other.now.positive fits fits'
    c.differs_in_sign-negative.ensures c.unsigned_abs-left.ensures.value c.unsigned_abs-right.ensures.value

pub returns-in-None-clause-past : goal.returns-in-None-clause-past
returns-in-None-clause-past c =
    let fits : FitsSigned w128 c.args.self.now.numer = search rules in
    let fits' : FitsSigned w128 c.args.other.now.numer = search rules in
    subst HasNoForm
    (product_value c.args.self.now.numer c.args.other.now.numer _ _ _ _ _ c.args.self.now.positive c.args.other.now.positive fits fits'
    c.differs_in_sign-negative.ensures c.unsigned_abs-left.ensures.value c.unsigned_abs-right.ensures.value)
    c.in-None.ensures.none
