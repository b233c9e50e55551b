use Rattle.lq_sound_values.proofs.InclusionLemmas.Likes.{like_fit}
use Rattle.lq_sound_values.proofs.InclusionLemmas.Putting.{same_like, top_same, forth_like, top_forth, back_like, top_back}
use Rattle.lq_sound_values.proofs.InclusionLemmas.Truths.{Lower}
use Rattle.lq_refined_types.specs.Types.Operations.{type_by}
use Rattle.lq_sound_values.proofs.inclusion.laws.like_types_fit.Goals as goal

pub returns-clause-like : goal.returns-clause-like
returns-clause-like c = λ S is σ τ by to T U l t. like_fit c.datatypes_fit.ensures.datatypes S is.covariant σ τ by to T U l t

pub returns-clause-thin : goal.returns-clause-thin
returns-clause-thin c = λ S is T P o σ τ by f.
    like_fit c.datatypes_fit.ensures.datatypes S is.covariant σ τ by by T T (same_like S by T P o.0 σ τ f) (top_same S by T P o.1 σ τ f)

pub returns-clause-put : goal.returns-clause-put
returns-clause-put c = λ S is θ T l σ τ by s.
    let law : Lower = record { valid = c.whole_numbers_are_a_point.ensures.valid; truth-by = c.truth_under_substitution.ensures; under-by = c.substitutions.ensures.under } in
    let fit = c.datatypes_fit.ensures.datatypes in
    let U = type_by S.setting.scopes θ T in (
      like_fit fit S is.covariant σ τ by by U T (forth_like law S is.scoped by θ l.value l.positions T l.names σ τ s) (top_forth law S is.scoped by θ l.value l.positions T σ τ s),
      like_fit fit S is.covariant τ σ by by T U (back_like law S is.scoped by θ l.value l.positions T l.names σ τ s) (top_back law S is.scoped by θ l.value l.positions T σ τ s),
    )
