-- The sizes of the example are small: 3 * 1! * 1^1 * 1 is 3, and the divisor of its row is 1.
use Rattle.std.proofs.Common.{◌≡◌, ◌≢◌, inl, ℕ, ℤ, zero, suc, pos, negsuc, ◌<◌, arith, refl, sym, subst, [], ◌∷◌}
use Rattle.std.proofs.Math.Nat.{one-dvd}
use Rattle.std.specs.Int.{◌∣◌}
use Rattle.std.specs.List.{Contains}
use Rattle.std.proofs.lemmas.List.Elements.{All-nil, All-cons}
use Rattle.lq_base_numbers.specs.Rationals.Rational.{whole}
use Rattle.lq_base_numbers.specs.Rationals.Whole.{whole_once}
use Rattle.lq_logic_rows.specs.Difference.{TermsBelow}
use Rattle.lq_logic_rows.specs.Row.{Row, IsRow}
use Rattle.lq_prover_pivots.specs.Pivots.Example.{variables, row, rows, after}
use Rattle.lq_prover_pivots.proofs.PivotsLemmas.Variables.{are_variables}
use Rattle.lq_prover_pivots.proofs.CramerLemmas.Example.{is_configuration}
use Rattle.lq_prover_pivots.specs.Work.Sizes.{IsDivisor, AreSized}
use Rattle.lq_logic_rows.specs.Steps.{IsStep}
use Rattle.lq_prover_pivots.specs.Work.Work.{IsReading, IsEntry, IsSumming, IsForming, IsExchanging, IsPlace, IsMoving, IsSharing, AreWhole}
use Rattle.lq_prover_pivots.specs.Work.Example.{SomeWork, SomeForm}

one_row : (r : Row) → Contains rows r → row ≡ r
one_row r there = by there.0 there.1 there.2
  where
    by : (i : ℕ) → i < 1 → Rattle.std.specs.Prelude.slice_index_or rows i r ≡ r → row ≡ r
    by zero l e = e
    by (suc i) l e = absurd (omega arith)

pub apart : ¬ (negsuc 0 ≡ pos 0)
apart e = absurd (cc)

abbrev pub Nonzero : ℕ × ℤ → Type 0
Nonzero part = part.1 ≢ pos 0

pub row_is : IsRow row × TermsBelow 2 row.parts
row_is = (
  record {
    ascending = (omega arith, (omega arith, tt));
    nonzero = All-cons Nonzero (0, negsuc 0) ((1, negsuc 0) ∷ []) apart (All-cons Nonzero (1, negsuc 0) [] apart (All-nil Nonzero));
  },
  (omega arith, (omega arith, tt)),
)

pub divisor_one : (g : ℕ) → IsDivisor row.parts g → g ∣ 1
divisor_one g is = is.divides.0

abbrev sized : AreSized rows variables
sized = record {
  variables = are_variables;
  each = λ r there. subst (λ (r : Row). IsRow r × TermsBelow 2 r.parts) (one_row r there) row_is;
  some = omega arith;
  multiple = 1;
  least = record {
    positive = omega arith;
    multiple = λ r g there is. divisor_one g (subst (λ (r : Row). IsDivisor r.parts g) (sym (one_row r there)) is);
    least = λ k h. one-dvd k;
  };
}

there : Contains rows row
there = (0, omega arith, refl)

is_divisor : IsDivisor row.parts 1
is_divisor = record { divides = (one-dvd 1, (one-dvd 1, tt)); greatest = λ d h. h.0 }

-- the first term is a combination of the second and of the sum, which has the entry 1
entry : IsEntry variables after (whole (pos 1))
entry = record { variable = 0; free = 2; inside = omega arith; is_free = (omega arith, refl); is = refl }

one_apart : ¬ (whole (pos 1) ≡ whole (pos 0))
one_apart e = let q : pos 1 ≡ pos 0 = whole_once (pos 1) (pos 0) e in absurd (cc)

place : (k : ℕ) → k < 3 → IsPlace variables rows after (after.value k)
place k l = IsPlace.value k l refl

zeros : AreWhole variables rows (λ t. whole (pos 0))
zeros = record { at = λ t. pos 0; is = λ t l. refl; within = λ t l. omega arith; below = λ t l. omega arith }

pub some_work : SomeWork
some_work = record {
  small = record { sized = sized; small = omega arith };
  configuration = is_configuration;
  reading = IsReading.negated_constant row there;
  forming = IsForming.values 2 (omega arith) (IsSumming.product 0 0 (pos 1) refl);
  exchanging = IsExchanging.quotient (whole (pos 1)) (whole (pos 1)) (inl refl) entry one_apart;
  moving = IsMoving.difference (whole (pos 1)) (whole (pos 0)) (place 0 (omega arith)) (place 1 (omega arith));
  sharing = IsSharing.quotient row 1 (whole (pos 1)) there is_divisor (inl refl);
  level = record { row = row; there = there; step = IsStep.constant_sum };
  whole_level = record { row = row; there = there; values = λ t. whole (pos 0); whole_values = zeros; step = IsStep.constant_sum };
}

pub some_form : SomeForm
some_form = record {
  first = record { terms_in = omega arith; named = are_variables.named };
  below = (omega arith, (omega arith, tt));
  configuration = is_configuration;
}
