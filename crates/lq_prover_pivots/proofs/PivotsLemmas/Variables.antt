-- The example's variables are those of its row.
use Rattle.std.proofs.Common.{◌≡◌, ℕ, zero, suc, pos, negsuc, ◌<◌, ◌≤◌, arith, refl, ap, subst, [], ◌∷◌, ℤ}
use Rattle.std.proofs.lemmas.Int.{ints}
use Rattle.std.proofs.Math.Nat.{eq-one_of_dvd-one}
use Rattle.lq_logic_rows.specs.Row.{Row}
use Rattle.lq_prover_pivots.specs.Pivots.Rows.{form}
use Rattle.lq_logic_rows.specs.Forms.{IsNormal}
use Rattle.lq_prover_pivots.specs.Pivots.Variables.{IsOf, ComesAt, AreVariables}
use Rattle.lq_prover_pivots.specs.Pivots.Example.{variables, row, rows}

named : (t : ℕ) → t < 2 → form variables t ≡ (t, pos 1) ∷ []
named zero l = refl
named (suc zero) l = refl
named (suc (suc t)) l = absurd (omega arith)

normal : (k : ℕ) → k < 3 → IsNormal (form variables k)
normal zero l = record { above = omega (arith, ints); lowest = λ d h. eq-one_of_dvd-one h.0 }
normal (suc zero) l = record { above = omega (arith, ints); lowest = λ d h. eq-one_of_dvd-one h.0 }
normal (suc (suc zero)) l = record { above = omega (arith, ints); lowest = λ d h. eq-one_of_dvd-one h.0 }
normal (suc (suc (suc k))) l = absurd (omega arith)

once : (j k : ℕ) → j < 3 → k < 3 → form variables j ≡ form variables k → j ≡ k
once zero zero l m e = refl
once (suc zero) (suc zero) l m e = refl
once (suc (suc zero)) (suc (suc zero)) l m e = refl
once zero (suc zero) l m e = let h : (0, pos 1) ≡ (1, pos 1) = cc in ap (λ (p : ℕ × ℤ). p.0) h
once zero (suc (suc zero)) l m e = absurd (cc)
once (suc zero) zero l m e = let h : (1, pos 1) ≡ (0, pos 1) = cc in ap (λ (p : ℕ × ℤ). p.0) h
once (suc zero) (suc (suc zero)) l m e = absurd (cc)
once (suc (suc zero)) zero l m e = absurd (cc)
once (suc (suc zero)) (suc zero) l m e = absurd (cc)
once (suc (suc (suc j))) k l m e = absurd (omega arith)
once zero (suc (suc (suc k))) l m e = absurd (omega arith)
once (suc zero) (suc (suc (suc k))) l m e = absurd (omega arith)
once (suc (suc zero)) (suc (suc (suc k))) l m e = absurd (omega arith)

is_of : IsOf variables 2 row
is_of = record { factor = negsuc 0; some = λ e. absurd (cc); is = refl }

last_two : (k : ℕ) → 2 ≤ k → k < 3 → 2 ≡ k
last_two k l m = omega arith

pub are_variables : AreVariables rows variables
are_variables = record {
  terms_in = omega arith;
  named = named;
  normal = normal;
  once = once;
  has = λ r c n. (2, omega arith, subst (IsOf variables 2) (one_row c.0 r c.1 c.2) is_of);
  longer = λ k l m. subst (λ (k : ℕ). 2 ≤ Rattle.std.specs.Prelude.length (form variables k)) (last_two k l m) (omega arith);
  comes = λ k l m. subst (λ (k : ℕ). (i : ℕ) × ComesAt variables rows k i) (last_two k l m) (0, (row, refl, is_of));
  ordered = λ j k i l m n c. absurd (omega arith);
}
  where
    one_row : (i : ℕ) (r : Row) → i < 1 → Rattle.std.specs.Prelude.slice_index_or rows i r ≡ r → row ≡ r
    one_row zero r l e = e
    one_row (suc i) r l e = absurd (omega arith)
