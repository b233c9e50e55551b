-- Numbers by their terms' places.
use Rattle.std.proofs.Common.{◌≡◌, ℕ, length, List, Option, Some, None, is_some, get_or, ◌<◌, pos, false, sym, refl, ap, ◌∙◌, arith}
use Rattle.std.proofs.lemmas.Option.{slice_get_past, slice_get-get_or}
use Rattle.lq_base_numbers.specs.Rationals.Rational.{whole}
use Rattle.lq_base_numbers.specs.declared.fractions.frac.Frac.{Frac}
use Rattle.lq_base_numbers.specs.Fractions.Value.{value_of}
use Rattle.lq_logic_rows.specs.Steps.{valuation_of, value_or_zero}
use Rattle.lq_logic_predicates.specs.Sum.{Sum}
use Rattle.lq_logic_predicates.specs.Table.{has_term, index_of}
use Rattle.lq_logic_predicates.specs.Numbering.{index_of-absent}

pub value_there : (values : List Frac) (q : ℕ) (f : Frac) → q < length values → f ≡ get_or values q f → valuation_of values q ≡ value_of f
value_there values q f h e = ap value_or_zero (slice_get-get_or values q f h ∙ ap Some (sym e))

-- a term that the list lacks has the number 0
pub absent_zero : (terms : List Sum) (numbers : List Frac) (s : Sum) → length numbers ≡ length terms → has_term terms s ≡ false
    → valuation_of numbers (index_of terms s) ≡ whole (pos 0)
absent_zero terms numbers s l h =
    let i = index_of-absent terms s h in ap value_or_zero (slice_get_past numbers (index_of terms s) (omega (arith, i, l)))

pub not_some : {A : Type 0} (o : Option A) → ((x : A) → o ≡ Some x → ⊥) → is_some o ≡ false
not_some (Some x) h = absurd (h x refl)
not_some None h = refl
