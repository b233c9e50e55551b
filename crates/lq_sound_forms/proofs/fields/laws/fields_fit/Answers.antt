use Rattle.std.proofs.Common.{[], ◌∷◌}
use Rattle.lq_logic_predicates.specs.declared.symbol.Symbol.TheVariants as symbol
use Rattle.lq_meaning_steps.specs.Model.Core.{v_build}
use Rattle.lq_refined_types.specs.Types.Refined.{Refineds}
use Rattle.lq_refined_types.specs.Types.Unfolding.{cell}
use Rattle.lq_sound_values.specs.Inhabitants.Truth.{given}
use Rattle.lq_sound_values.specs.Inhabitants.Shut.{field_values}
use Rattle.lq_sound_values.proofs.InclusionLemmas.Truths.{Lower}
use Rattle.lq_sound_values.specs.Runs.Closed.{with_value}
use Rattle.lq_sound_forms.specs.Fields.Fields.{terms_from, flags_from, field_types}
use Rattle.lq_sound_forms.proofs.FieldsLemmas.Standing.{parts_put, known_back}
use Rattle.lq_sound_forms.proofs.FieldsLemmas.Unfolded.{fields_fit}
use Rattle.lq_sound_forms.proofs.fields.laws.fields_fit.Goals as goal

pub returns-clause-parts : goal.returns-clause-parts
returns-clause-parts c = λ S scoped θ P Q σ τ s ps o.
    let law : Lower = record { valid = c.whole_numbers_are_a_point.ensures.valid; truth-by = c.truth_under_substitution.ensures; under-by = c.substitutions.ensures.under } in
    parts_put law S θ P Q σ τ s scoped ps o

pub returns-clause-fields : goal.returns-clause-fields
returns-clause-fields c = λ S is d Ts M i k makes m θ σ by vs puts n W.
    let law : Lower = record { valid = c.whole_numbers_are_a_point.ensures.valid; truth-by = c.truth_under_substitution.ensures; under-by = c.substitutions.ensures.under } in
    let ts : Refineds = field_types S d Ts M [] i k.fields in
    let κ = field_values 0 vs in
    fields_fit c.datatypes_fit.ensures.datatypes S is.covariant d Ts M i θ σ κ by k.fields m (λ j a u.
    let e = parts_put law S θ (with_value (terms_from 0 ts)) (with_value (flags_from 0 ts)) (given symbol.Value u ∷ σ) (given symbol.Value u ∷ κ) (puts u) is.scoped (cell M i j a) (m.entries j a) in
    (e.1, e.0)) n W vs

pub returns-clause-equations : goal.returns-clause-equations
returns-clause-equations c = λ S P knows θ p q σ i vs s o.
    let law : Lower = record { valid = c.whole_numbers_are_a_point.ensures.valid; truth-by = c.truth_under_substitution.ensures; under-by = c.substitutions.ensures.under } in
    known_back law S θ p q σ (given symbol.Value (v_build i vs) ∷ field_values 0 vs) s (P.equations i) o (knows i vs)
