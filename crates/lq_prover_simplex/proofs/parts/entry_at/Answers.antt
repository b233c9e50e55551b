use Rattle.std.proofs.Common.{◌<◌, ◌∙◌, ap, sym, subst, rules, arith, FitsSigned, Some, length}
use Rattle.std.specs.Int.{w128}
use Rattle.std.proofs.lemmas.Int.{to_z-of_z}
use Rattle.lq_base_numbers.specs.Rationals.Rational.{ratio}
use Rattle.lq_base_numbers.specs.declared.fractions.frac.Frac.{Frac}
use Rattle.lq_prover_simplex.specs.declared.whole.Part.{Part}
use Rattle.lq_prover_simplex.proofs.Values.{there}
use Rattle.lq_prover_simplex.proofs.Numerators.{length-entries, get-entries, is_fraction}
use Rattle.lq_prover_simplex.proofs.parts.entry_at.Goals as goal

pub index-part-requires : goal.index-part-requires
index-part-requires c =
    let line = c.args.line.now in let h = c.requires in let k = line.parts.ok.0 in
    let e = length-entries line.parts.items line.denominator line.positive line.small in omega arith

pub returns : goal.returns
returns c =
    let line = c.args.line.now in let p : Part = c.index-part.result.now in
    let within : c.args.at < length line.parts.items = subst (λ n. c.args.at < n) (length-entries line.parts.items line.denominator line.positive line.small) c.requires in
    let fits : FitsSigned w128 p.numerator = search rules in
    get-entries line.parts.items c.args.at p line.denominator line.positive line.small (there line.parts.items c.args.at p within c.index-part.ensures)
    ∙ ap (λ (f : Frac). Some (record { variable = p.variable; factor = f }))
    (sym (is_fraction c.fraction.result p.numerator line.denominator line.positive line.small (c.fraction.ensures ∙ ap (λ z. ratio z line.denominator) (to_z-of_z w128 p.numerator fits))))
