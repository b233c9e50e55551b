-- The forms of a system as the variables of the rows that were handed over.
use Rattle.std.proofs.Common.{◌≡◌, ℕ, zero, suc, pos, ◌<◌, ◌≤◌, inl, inr, arith, refl, sym, ap, ◌∙◌, List, [], ◌∷◌, Some, None, length, slice_get, unsigned_abs}
use Rattle.std.specs.List.{Contains}
use Rattle.std.proofs.Math.IntN.{ℤ}
use Rattle.std.specs.Int.Signed.{◌<ℤ◌}
use Rattle.std.proofs.lemmas.Int.{ints}
use Rattle.std.proofs.lemmas.Bool.{cases_lt}
use Rattle.std.proofs.lemmas.Nat.Gcd.{dvd_refl}
use Rattle.std.proofs.lemmas.Option.{slice_get-get_or}
use Rattle.lq_logic_rows.specs.Row.{Row}
use Rattle.lq_logic_rows.specs.Forms.{Parts, IsNormal, AreMultiples}
use Rattle.lq_logic_rows.specs.Difference.{TermsBelow}
use Rattle.lq_prover_pivots.specs.Pivots.Variables.{AreVariables, ComesAt}
use Rattle.lq_prover_simplex.specs.Systems.{form_at, AreForms}
use Rattle.lq_prover_simplex.specs.Appearing.{AreFormsOf}
use Rattle.lq_prover_simplex.proofs.Multiples.{whole_multiple, multiple_both}

row_at : (rows : List Row) (row : Row) → Contains rows row → (i : ℕ) × (slice_get rows i ≡ Some row)
row_at rows row c = (c.0, slice_get-get_or rows c.0 row c.1 ∙ ap Some c.2)

pub at_place : (rows : List Row) (i : ℕ) (row : Row) → slice_get rows i ≡ Some row → Contains rows row
at_place [] i row h = absurd (let q : None ≡ Some row = h in cc)
at_place (r ∷ rows) zero row h = let q : r ≡ row = cc in (0, omega arith, q)
at_place (r ∷ rows) (suc i) row h = let c = at_place rows i row h in (suc c.0, (let l = c.1 in omega arith), c.2)

one_above : (n : ℤ) → pos 0 <ℤ n → unsigned_abs n ≡ 1 → n ≡ pos 1
one_above n h e = omega (arith, ints)

-- a form of one term is that of the term
two_terms : (terms : ℕ) (forms : List Parts) (k : ℕ) (form : Parts) → AreForms terms forms → terms ≤ k → k < length forms → form_at forms k ≡ form → IsNormal form → TermsBelow terms form → 2 ≤ length form
two_terms terms forms k [] f l h e normal below = absurd normal.above
two_terms terms forms k (q ∷ []) f l h e normal below =
    let one : q.1 ≡ pos 1 = one_above q.1 normal.above (normal.lowest (unsigned_abs q.1) (dvd_refl (unsigned_abs q.1), tt)) in
    let same : form_at forms q.0 ≡ form_at forms k = f.named q.0 below.0 ∙ ap (λ (z : ℤ). (q.0, z) ∷ []) (sym one) ∙ sym e in
    absurd (let t = f.terms_in in let b = below.0 in let is : q.0 ≡ k = f.once q.0 k (omega arith) h same in omega arith)
two_terms terms forms k (q ∷ p ∷ form) f l h e normal below = omega arith

pub are_variables : (rows : List Row) (terms : ℕ) (forms : List Parts) → AreForms terms forms → AreFormsOf rows terms forms
    → AreVariables rows (record { terms = terms; forms = forms })
are_variables rows terms forms f a = record {
  terms_in = f.terms_in;
  named = f.named;
  normal = f.normal;
  once = f.once;
  has = λ row there some.
      let at = row_at rows row there in
      elim (a.covers at.0 row at.1) [
        | inl none ↦ absurd (some none)
        | inr k ↦ (k.0, k.1, whole_multiple row.parts (form_at forms k.0) (f.normal k.0 k.1) k.2)
      ];
  longer = λ k l h. two_terms terms forms k (form_at forms k) f l h refl (f.normal k h) (f.below k);
  comes = λ k l h. let x = a.first k l h in (x.0, comes k x.0 x.1.row h x.1.there x.1.multiple);
  ordered = λ j k i l less h c.
      let x = a.first j l (omega arith) in let y = a.first k (omega arith) h in
      let apart = a.ascend j k x.0 y.0 l less h x.1 y.1 in
      elim (cases_lt i y.0) [
        | inl before ↦ absurd (y.1.before i c.0 before c.1 (multiple_both c.0.parts (form_at forms k) c.2))
        | inr from ↦ (x.0, omega arith, comes j x.0 x.1.row (omega arith) x.1.there x.1.multiple)
      ];
}
  where
    comes : (k i : ℕ) (row : Row) → k < length forms → slice_get rows i ≡ Some row → AreMultiples row.parts (form_at forms k)
        → ComesAt (record { terms = terms; forms = forms }) rows k i
    comes k i row h there m = (row, there, whole_multiple row.parts (form_at forms k) (f.normal k h) m)
