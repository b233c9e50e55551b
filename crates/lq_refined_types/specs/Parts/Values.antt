-- The truth of a predicate with something put for its names.
use Rattle.std.specs.Prelude.{◌≡◌}
use Rattle.lq_logic_predicates.specs.Truth.{Meaning, object_of, term_value, truth_of}
use Rattle.lq_logic_predicates.specs.Formula.{Formula}
use Rattle.lq_refined_types.specs.Parts.Substitution.{Subst, sum_at, flag_at, formula_by}

-- the values of what is put for the symbols
abbrev pub meaning_by : Meaning → Subst → Meaning
meaning_by m θ =
    record { number = λ x. term_value m (sum_at θ x); holds = λ x. truth_of m (flag_at θ x); object = λ x. object_of m (sum_at θ x); length = m.length; measured = m.measured }

-- a predicate is true with something put for its names exactly where it is true under the values of that
abbrev pub TruthBy : Type 0
TruthBy = (m : Meaning) (θ : Subst) (p : Formula) → truth_of m (formula_by θ p) ≡ truth_of (meaning_by m θ) p
