use Rattle.std.proofs.Common.{rules, ap₂, ◌∙◌, not, FitsSigned}
use Rattle.std.proofs.Math.IntN.{pos}
use Rattle.std.specs.Int.{w128}
use Rattle.std.specs.Int.Signed.{lt_z}
use Rattle.std.proofs.lemmas.Int.{to_z-of_z}
use mathlib.Core.Bool.{beq}
use Rattle.lq_base_numbers.proofs.FractionsLemmas.Products.{test_of_signs}
use Rattle.lq_base_numbers.proofs.fractions.frac.Frac.differs_in_sign.Goals as goal

pub returns : goal.returns
returns c =
    let fits : FitsSigned w128 c.args.self.now.numer = search rules in
    let fits' : FitsSigned w128 c.args.other.now.numer = search rules in
    ap₂ (λ x y. not (beq (lt_z x (pos 0)) (lt_z y (pos 0)))) (to_z-of_z w128 _ fits) (to_z-of_z w128 _ fits')
    ∙ test_of_signs c.args.self.now.numer c.args.other.now.numer
