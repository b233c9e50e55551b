use Rattle.std.proofs.Common.{◌≡◌, ◌∙◌, ap, ap₂, subst, sym, pos}
use Rattle.std.specs.Int.{w128}
use Rattle.std.proofs.lemmas.Int.{to_z-of_z, to_z_pos}
use Rattle.lq_base_numbers.specs.Rationals.NumberForms.{HasNoForm}
use Rattle.lq_base_numbers.specs.Rationals.Rational.{whole}
use Rattle.lq_base_numbers.specs.Rationals.RationalQuotient.{◌/ℚ◌}
use Rattle.lq_base_numbers.specs.Fractions.Value.{value_of}
use Rattle.lq_base_numbers.specs.Fractions.Past.{IsPast}
use Rattle.lq_prover_simplex.proofs.Readings.{whole_apart}
use Rattle.lq_prover_simplex.proofs.Numerators.{ratio-quotient, has_form}
use Rattle.lq_prover_simplex.proofs.parts.fraction.Goals as goal

pub div-requires : goal.div-requires
div-requires c =
    whole_apart c.args.denominator (value_of c.whole-2.result) c.requires.some (c.whole-2.ensures.value ∙ ap whole (to_z_pos w128 c.args.denominator c.requires.small))

pub unreachable-requires : goal.unreachable-requires
unreachable-requires c =
    let n = c.args.numerator in let d = c.args.denominator in
    let bottom : value_of c.whole-2.result ≡ whole (pos d) = c.whole-2.ensures.value ∙ ap whole (to_z_pos w128 d c.requires.small) in
    let top : value_of c.whole.result ≡ whole n = c.whole.ensures.value ∙ ap whole (to_z-of_z w128 n c.ranges.numerator) in
    let past : HasNoForm (value_of c.whole.result /ℚ value_of c.whole-2.result) = subst IsPast c.in-Err.ensures.carries c.in-Err.ensures.past in
    has_form n d c.ranges.numerator c.requires.some c.requires.small
    (subst HasNoForm (ap₂ (λ x y. x /ℚ y) top bottom ∙ sym (ratio-quotient n d c.requires.some (whole_apart d (whole (pos d)) c.requires.some (λ i. whole (pos d))))) past)

pub returns : goal.returns
returns c =
    let n = c.args.numerator in let d = c.args.denominator in
    let bottom : value_of c.whole-2.result ≡ whole (pos d) = c.whole-2.ensures.value ∙ ap whole (to_z_pos w128 d c.requires.small) in
    let top : value_of c.whole.result ≡ whole n = c.whole.ensures.value ∙ ap whole (to_z-of_z w128 n c.ranges.numerator) in
    c.in-Ok.ensures.exact ∙ ap₂ (λ x y. x /ℚ y) top bottom ∙ sym (ratio-quotient n d c.requires.some (whole_apart d (whole (pos d)) c.requires.some (λ i. whole (pos d))))
