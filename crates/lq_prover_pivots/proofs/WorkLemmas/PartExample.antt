-- A part of two rows: the row of one term.
use Rattle.std.proofs.Common.{◌≡◌, ◌⊎◌, inl, inr, ℕ, zero, suc, pos, negsuc, ◌<◌, ◌≤◌, arith, refl, ap, subst, true, false, [], ◌∷◌, length}
use Rattle.std.proofs.Math.Nat.{one-dvd}
use Rattle.std.proofs.lemmas.Int.{ints}
use Rattle.std.proofs.lemmas.List.Elements.{All-nil, All-cons}
use Rattle.std.specs.Int.{◌∣◌}
use Rattle.std.specs.List.{Contains}
use Rattle.lq_base_numbers.specs.Rationals.Rational.{whole}
use Rattle.lq_base_numbers.specs.Rationals.Solver.{con, ◌⊖◌, ◌⊗◌, solve}
use Rattle.lq_logic_rows.specs.Difference.{TermsBelow}
use Rattle.lq_logic_rows.specs.Forms.{IsNormal}
use Rattle.lq_logic_rows.specs.Row.{Row, IsRow}
use Rattle.lq_logic_rows.specs.Steps.{IsStep}
use Rattle.lq_logic_rows.specs.declared.bound.Side.{Side}
use Rattle.lq_logic_rows.specs.declared.bound.Side.TheVariants.{Lower}
use Rattle.lq_prover_pivots.specs.Pivots.Rows.{form, Gives}
use Rattle.lq_prover_pivots.specs.Pivots.Variables.{IsOf, ComesAt, AreVariables}
use Rattle.lq_prover_pivots.specs.Pivots.Configurations.{Free, IsConfiguration}
use Rattle.lq_prover_pivots.specs.Pivots.Example.{variables, row}
use Rattle.lq_prover_pivots.proofs.PivotsLemmas.Variables.{are_variables}
use Rattle.lq_prover_pivots.specs.Work.Sizes.{IsDivisor, AreDivisorsOf, AreSized}
use Rattle.lq_prover_pivots.specs.Work.Work.{IsReading, AreWhole}
use Rattle.lq_prover_pivots.specs.Work.Example.{first_row, both, part, two_terms, at_bound, both_free, SomePart}
use Rattle.lq_prover_pivots.proofs.WorkLemmas.Part.{cases_in, no_row, tail_in}
use Rattle.lq_prover_pivots.proofs.WorkLemmas.Example.{row_is, apart, Nonzero, divisor_one}

-- ---- the rows, one by one
alone : (r : Row) → Contains part r → first_row ≡ r
alone r there = elim (cases_in first_row [] r there) [ inl e ↦ e | inr none ↦ no_row r none ]

one_of_two : (P : Row → Type 0) → P row → P first_row → (r : Row) → Contains both r → P r
one_of_two P one other r there = elim (cases_in row part r there) [ inl e ↦ subst P e one | inr last ↦ subst P (alone r last) other ]

-- ---- their variables
of_sum : IsOf variables 2 row
of_sum = record { factor = negsuc 0; some = apart; is = refl }

of_first : IsOf variables 0 first_row
of_first = record { factor = negsuc 0; some = apart; is = refl }

last_two : (k : ℕ) → 2 ≤ k → k < 3 → 2 ≡ k
last_two k l m = omega arith

both_variables : AreVariables both variables
both_variables = record {
  terms_in = are_variables.terms_in;
  named = are_variables.named;
  normal = are_variables.normal;
  once = are_variables.once;
  has = λ r there some. one_of_two (λ r. (k : ℕ) × (k < 3) × IsOf variables k r) (2, omega arith, of_sum) (0, omega arith, of_first) r there;
  longer = are_variables.longer;
  comes = λ k l m. subst (λ (k : ℕ). (i : ℕ) × ComesAt variables both k i) (last_two k l m) (0, (row, refl, of_sum));
  ordered = λ j k i l m n c. absurd (omega arith);
}

named : (t : ℕ) → t < 2 → form two_terms t ≡ (t, pos 1) ∷ []
named zero l = refl
named (suc zero) l = refl
named (suc (suc t)) l = absurd (omega arith)

normal : (k : ℕ) → k < 2 → IsNormal (form two_terms k)
normal zero l = are_variables.normal 0 (omega arith)
normal (suc zero) l = are_variables.normal 1 (omega arith)
normal (suc (suc k)) l = absurd (omega arith)

once : (j k : ℕ) → j < 2 → k < 2 → form two_terms j ≡ form two_terms k → j ≡ k
once zero zero l m e = refl
once (suc zero) (suc zero) l m e = refl
once zero (suc zero) l m e = are_variables.once 0 1 (omega arith) (omega arith) e
once (suc zero) zero l m e = are_variables.once 1 0 (omega arith) (omega arith) e
once (suc (suc j)) k l m e = absurd (omega arith)
once zero (suc (suc k)) l m e = absurd (omega arith)
once (suc zero) (suc (suc k)) l m e = absurd (omega arith)

abbrev own_first : IsOf two_terms 0 first_row
own_first = record { factor = negsuc 0; some = apart; is = refl }

part_variables : AreVariables part two_terms
part_variables = record {
  terms_in = omega arith;
  named = named;
  normal = normal;
  once = once;
  has = λ r there some. (0, omega arith, subst (IsOf two_terms 0) (alone r there) own_first);
  longer = λ k l m. absurd (omega arith);
  comes = λ k l m. absurd (omega arith);
  ordered = λ j k i l m n c. absurd (omega arith);
}

-- ---- their sizes
first_is : IsRow first_row × TermsBelow 2 first_row.parts
first_is = (record { ascending = (omega arith, tt); nonzero = All-cons Nonzero (0, negsuc 0) [] apart (All-nil Nonzero) }, (omega arith, tt))

first_divisor : (g : ℕ) → IsDivisor first_row.parts g → g ∣ 1
first_divisor g is = is.divides.0

divisors : AreDivisorsOf both 1
divisors r g there is = one_of_two (λ r. IsDivisor r.parts g → g ∣ 1) (divisor_one g) (first_divisor g) r there is

abbrev both_sized : AreSized both variables
both_sized = record {
  variables = both_variables;
  each = one_of_two (λ r. IsRow r × TermsBelow 2 r.parts) row_is first_is;
  some = omega arith;
  multiple = 1;
  least = record { positive = omega arith; multiple = divisors; least = λ k h. one-dvd k };
}

-- ---- the configuration
gives : Gives two_terms part Lower 0 (whole (pos 1))
gives = record {
  row = first_row;
  there = (0, omega arith, refl);
  inside = omega arith;
  bounds = record { multiple = own_first; on = inr (omega (arith, ints)); is = solve [] (con (negsuc 0) ⊗ con (pos 1)) (con (pos 0) ⊖ con (pos 1)) refl };
}

rests : (j : ℕ) → Free two_terms both_free j → (at_bound j ≡ whole (pos 0)) ⊎ ((side : Side) × Gives two_terms part side j (at_bound j))
rests zero free = inr (Lower, gives)
rests (suc j) free = inl refl

never : true ≡ false → ⊥
never e = cc

configured : IsConfiguration two_terms part both_free
configured = record {
  count = refl;
  combined = λ k basic. absurd (never basic.1);
  once = λ k a basic is j free. absurd (never basic.1);
  rests = rests;
  valued = λ k basic. absurd (never basic.1);
}

proper : ¬ (Contains part row)
proper there = let e : first_row ≡ row = alone row there in by (ap (λ (r : Row). length r.parts) e)
  where
    by : length first_row.parts ≡ length row.parts → ⊥
    by e = absurd (omega arith)

zeros : AreWhole variables both (λ t. whole (pos 0))
zeros = record { at = λ t. pos 0; is = λ t l. refl; within = λ t l. omega arith; below = λ t l. omega arith }

pub some_part : SomePart
some_part = record {
  small = record { sized = both_sized; small = omega arith };
  is_part = record { among = λ r there. tail_in row part r there; variables = part_variables; terms = refl };
  proper = proper;
  configuration = configured;
  reading = IsReading.negated_constant first_row (0, omega arith, refl);
  level = record { row = row; there = (0, omega arith, refl); step = IsStep.constant_sum };
  whole_level = record { row = row; there = (0, omega arith, refl); values = λ t. whole (pos 0); whole_values = zeros; step = IsStep.constant_sum };
}
