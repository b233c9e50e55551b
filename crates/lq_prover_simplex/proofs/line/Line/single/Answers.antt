use Rattle.std.proofs.Common.{◌≡◌, ◌∙◌, ◌++◌, ◌∷◌, [], ap, ap₂, sym, rules, List, FitsSigned, to_z, of_z}
use Rattle.std.proofs.Math.IntN.{nat_abs}
use Rattle.std.specs.Int.{w128}
use Rattle.std.proofs.lemmas.Int.{to_z-of_z}
use Rattle.lq_base_numbers.specs.Rationals.Rational.{ratio}
use Rattle.lq_base_numbers.specs.Fractions.Value.{numer_of, denom_of}
use Rattle.lq_prover_simplex.specs.declared.whole.Part.{Part}
use Rattle.lq_prover_simplex.proofs.Numerators.{only_is}
use Rattle.lq_prover_simplex.proofs.line.Line.single.Goals as goal

pub returns : goal.returns
returns c =
    let n = c.numer.result in let d = c.denom.result in
    let top_fits : FitsSigned w128 n = search rules in
    let bottom_fits : FitsSigned w128 d = search rules in
    let top : to_z w128 (of_z w128 n) ≡ numer_of c.args.factor = to_z-of_z w128 n top_fits ∙ c.numer.ensures.numer in
    let bottom : nat_abs (to_z w128 (of_z w128 d)) ≡ denom_of c.args.factor = ap nat_abs (to_z-of_z w128 d bottom_fits ∙ c.denom.ensures.denom) in
    only_is c.push.new.self.items c.args.variable (nat_abs (to_z w128 (of_z w128 d))) _ _ c.args.factor (to_z w128 (of_z w128 n))
    (c.in_ok-push.ensures.items ∙ ap (λ (ps : List Part). ps ++ (record { variable = c.args.variable; numerator = to_z w128 (of_z w128 n) }) ∷ []) c.new-parts.ensures.items)
    (ap₂ (λ z k. ratio z k) (sym top) (sym bottom))
