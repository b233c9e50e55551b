use Rattle.std.proofs.Common.{◌≡◌, ◌≢◌, ◌<◌, ◌∙◌, ℕ, refl, ap, sym, subst, rules, FitsSigned, length}
use Rattle.std.specs.Int.{w128}
use Rattle.std.proofs.lemmas.Int.{to_z-of_z}
use Rattle.lq_base_numbers.specs.Rationals.Rational.{ratio}
use Rattle.lq_base_numbers.specs.Fractions.Value.{value_of}
use Rattle.lq_prover_simplex.specs.declared.whole.Part.{Part}
use Rattle.lq_prover_simplex.specs.WholeLines.{fraction_value, fraction, entry_of, part_variable, HasPart}
use Rattle.lq_prover_simplex.proofs.Combinations.{found_factor, factor_absent}
use Rattle.lq_prover_simplex.proofs.Numerators.{length-entries, variable-entries, get-entries}
use Rattle.lq_prover_simplex.proofs.parts.factor_in.Goals as goal

pub returns-in-None-clause-none : goal.returns-in-None-clause-none
returns-in-None-clause-none c =
    let line = c.args.line.now in let items = line.parts.items in
    let none : (j : ℕ) → j < length items → part_variable items j ≢ c.args.variable = rw (sym c.as_slice.ensures.value) c.in-None.ensures.none in
    factor_absent _ c.args.variable
    (λ j l e. none j (subst (λ n. j < n) (length-entries items line.denominator line.positive line.small) l) (sym (variable-entries items j line.denominator line.positive line.small) ∙ e))

pub returns-in-Some-clause-some : goal.returns-in-Some-clause-some
returns-in-Some-clause-some c =
    let line = c.args.line.now in let items = line.parts.items in let n = c.in-Some.numerator in
    let p : Part = record { variable = c.args.variable; numerator = n } in
    let has : HasPart items c.args.variable n = rw (sym c.as_slice.ensures.value) c.in-Some.ensures.some in
    let found = found_factor _ has.0 c.args.variable (entry_of p line.denominator line.positive line.small) c.requires (get-entries items has.0 p line.denominator line.positive line.small has.1) refl in
    let fits : FitsSigned w128 n = search rules in
    let same : value_of c.fraction.result ≡ value_of (fraction n line.denominator line.positive line.small) =
    c.fraction.ensures ∙ ap (λ z. ratio z line.denominator) (to_z-of_z w128 n fits) ∙ sym (fraction_value n line.denominator line.positive line.small) in
    (same ∙ found.0, λ z. found.1 (sym same ∙ z))
