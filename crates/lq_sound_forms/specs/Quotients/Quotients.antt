-- Quotients and remainders run well, with what the typing rules say of them.
use Rattle.std.specs.Prelude.{[], ◌∷◌}
use Rattle.lq_base_names.specs.declared.operation.CompareOp.TheVariants.{Eq, Ne}
use Rattle.lq_base_names.specs.declared.place.Place.{Place}
use Rattle.lq_logic_predicates.specs.Formula.{compare}
use Rattle.lq_logic_predicates.specs.Sum.{Sum, div, rem}
use Rattle.lq_refined_types.specs.Parts.Assignment.{Implied}
use Rattle.lq_refined_types.specs.Parts.Part.{known}
use Rattle.lq_refined_types.specs.Types.Context.{Context}
use Rattle.lq_refined_types.specs.Types.Refined.{int_with}
use Rattle.lq_refined_types.specs.Subtyping.Subtype.{facts}
use Rattle.lq_refined_rules.specs.Checks.Operation.{value, quotient_facts, remainder_fact}
use Rattle.lq_refined_rules.specs.Checks.Pure.{literal}
use Rattle.lq_meaning_steps.specs.Model.Core.{Core, two, arithmetic, quotient, remainder}
use Rattle.lq_sound_values.specs.Inhabitants.Truth.{Scene}
use Rattle.lq_sound_values.specs.Inclusion.Symbols.{SumOn}
use Rattle.lq_sound_values.specs.Runs.Closed.{names_in, IsClosed}
use Rattle.lq_sound_values.specs.Runs.Meets.{Variables}
use Rattle.lq_sound_values.specs.Runs.Runs.{RunsTo, RunsToNumber}

-- a quotient by what isn't 0
abbrev pub QuotientRuns : Type 0
QuotientRuns =
    (S : Scene) (by : Variables) (Γ : Context) (l : Place) (c d : Core) (x y : Sum) → IsClosed S Γ → SumOn (names_in Γ) x → SumOn (names_in Γ) y
    → RunsToNumber S by Γ c x → RunsToNumber S by Γ d y → Implied S.assignment (facts S.setting Γ) (known (compare Ne y (literal 0)))
    → RunsTo S by Γ (two (arithmetic (quotient l)) c d) (int_with (known (compare Eq value (div x y)) ∷ quotient_facts x y))

-- and a remainder
abbrev pub RemainderRuns : Type 0
RemainderRuns =
    (S : Scene) (by : Variables) (Γ : Context) (l : Place) (c d : Core) (x y : Sum) → IsClosed S Γ → SumOn (names_in Γ) x → SumOn (names_in Γ) y
    → RunsToNumber S by Γ c x → RunsToNumber S by Γ d y → Implied S.assignment (facts S.setting Γ) (known (compare Ne y (literal 0)))
    → RunsTo S by Γ (two (arithmetic (remainder l)) c d) (int_with (known (compare Eq value (rem x y)) ∷ known (remainder_fact x y) ∷ []))
