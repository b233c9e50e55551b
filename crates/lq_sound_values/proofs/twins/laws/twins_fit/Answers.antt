use Rattle.std.proofs.Common.{[], ◌∷◌}
use Rattle.lq_refined_types.specs.Parts.Substitution.{swap}
use Rattle.lq_refined_types.specs.Types.Operations.{symbol_of}
use Rattle.lq_sound_values.specs.Inhabitants.Truth.{given}
use Rattle.lq_sound_values.proofs.TwinsLemmas.Standing.{one_stands}
use Rattle.lq_sound_values.proofs.TwinsLemmas.Twins.{twin_both}
use Rattle.lq_sound_values.proofs.twins.laws.twins_fit.Goals as goal

pub returns-clause-twins : goal.returns-clause-twins
returns-clause-twins c = λ S is t P o a σ n by.
    let l = c.like_types_fit.ensures in
    twin_both l.thin l.put c.datatypes_fit.ensures.datatypes c.substitutions.ensures.under S is by t P o.0 a σ n σ

pub returns-clause-applied : goal.returns-clause-applied
returns-clause-applied c = λ S is t x a n v p σ u s k by.
    let r = c.like_types_fit.ensures.put S is (swap (symbol_of x) a ∷ []) t record { value = v; positions = p; names = n } σ (given (symbol_of x) u ∷ σ) by (one_stands S.objects σ x u a s k) in
    (r.1, r.0)
