use Rattle.std.proofs.Common.{◌∙◌, ◌++◌, ◌∷◌, [], sym, ap, ap₂, rules, pos, get_or, take, List, FitsSigned}
use Rattle.std.specs.Int.{w128}
use Rattle.std.proofs.lemmas.Int.{to_z-of_z}
use Rattle.std.proofs.lemmas.List.{take_more}
use Rattle.lq_base_numbers.specs.Rationals.Rational.{ratio}
use Rattle.lq_base_numbers.specs.declared.fractions.frac.Frac.{Frac}
use Rattle.lq_prover_simplex.specs.declared.line.Entry.{Entry}
use Rattle.lq_prover_simplex.specs.declared.whole.Part.{Part}
use Rattle.lq_prover_simplex.specs.WholeLines.{entries_of}
use Rattle.lq_prover_simplex.proofs.Numerators.{push-entries, is_fraction}
use Rattle.lq_prover_simplex.proofs.parts.entries.Goals as goal

pub loop-part-preserved : goal.loop-part-preserved
loop-part-preserved c =
    let line = c.args.line.now in let items = c.as_slice-part-items.result.now in let i = c.loop-part.part-index in
    let none : Part = record { variable = 0; numerator = pos 0 } in
    let p : Part = get_or items i none in
    let fits : FitsSigned w128 p.numerator = search rules in
    c.in_ok-push.ensures.items
    ∙ ap₂ (λ (es : List Entry) (f : Frac). es ++ (record { variable = p.variable; factor = f }) ∷ []) c.loop-part.invariant
    (is_fraction c.fraction.result p.numerator line.denominator line.positive line.small (c.fraction.ensures ∙ ap (λ z. ratio z line.denominator) (to_z-of_z w128 p.numerator fits)))
    ∙ sym (push-entries (take i items) p line.denominator line.positive line.small)
    ∙ ap (λ (qs : List Part). entries_of qs line.denominator line.positive line.small) (sym (take_more items i none c.loop-part-test.true))
