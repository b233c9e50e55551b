use Rattle.std.proofs.Common.{rules, subst, ◌∙◌, FitsSigned}
use Rattle.std.specs.Int.{w128}
use Rattle.lq_base_numbers.specs.Rationals.Coprime.{Coprime_swap}
use Rattle.lq_base_numbers.specs.Rationals.NumberForms.{HasNoForm}
use Rattle.lq_base_numbers.proofs.FractionsLemmas.Products.{quotient_value, size_some, size_lowest}
use Rattle.lq_base_numbers.proofs.fractions.frac.Frac.div.Goals as goal

pub product-requires-clause-second : goal.product-requires-clause-second
product-requires-clause-second c =
    let fits' : FitsSigned w128 c.args.other.now.numer = search rules in
    size_some c.args.other.now.numer c.args.other.now.denom _ c.args.other.now.positive fits' c.requires c.unsigned_abs-right.ensures.value

pub product-requires-clause-first_lowest : goal.product-requires-clause-first_lowest
product-requires-clause-first_lowest c =
    let fits : FitsSigned w128 c.args.self.now.numer = search rules in
    size_lowest c.args.self.now.numer c.args.self.now.denom _ fits c.args.self.now.lowest c.unsigned_abs-left.ensures.value

pub product-requires-clause-second_lowest : goal.product-requires-clause-second_lowest
product-requires-clause-second_lowest c =
    let fits' : FitsSigned w128 c.args.other.now.numer = search rules in
    Coprime_swap _ _ (size_lowest c.args.other.now.numer c.args.other.now.denom _ fits' c.args.other.now.lowest c.unsigned_abs-right.ensures.value)

pub returns-in-Some-clause-exact : goal.returns-in-Some-clause-exact
returns-in-Some-clause-exact c =
    let fits : FitsSigned w128 c.args.self.now.numer = search rules in
    let fits' : FitsSigned w128 c.args.other.now.numer = search rules in
    c.in-Some.ensures.some
    ∙ quotient_value c.args.self.now.numer c.args.other.now.numer _ _ _ _ _ c.args.self.now.positive c.args.other.now.positive fits fits' c.requires
    c.differs_in_sign-negative.ensures c.unsigned_abs-left.ensures.value c.unsigned_abs-right.ensures.value

pub returns-in-None-clause-past : goal.returns-in-None-clause-past
returns-in-None-clause-past c =
    let fits : FitsSigned w128 c.args.self.now.numer = search rules in
    let fits' : FitsSigned w128 c.args.other.now.numer = search rules in
    subst HasNoForm
    (quotient_value c.args.self.now.numer c.args.other.now.numer _ _ _ _ _ c.args.self.now.positive c.args.other.now.positive fits fits' c.requires
    c.differs_in_sign-negative.ensures c.unsigned_abs-left.ensures.value c.unsigned_abs-right.ensures.value)
    c.in-None.ensures.none
