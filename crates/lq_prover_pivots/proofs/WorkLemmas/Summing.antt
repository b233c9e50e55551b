-- Sums of the members of parts at values of bounded size over a common denominator.
use Rattle.std.proofs.Common.{◌≡◌, ℕ, ℤ, zero, suc, pos, ◌+◌, ◌*◌, ◌<◌, ◌≤◌, arith, refl, subst, [], ◌∷◌, length, take, slice_get, Some, unsigned_abs}
use Rattle.std.proofs.Math.IntN.{◌+ℤ◌}
use Rattle.std.proofs.Math.Seq.{take-length}
use Rattle.std.proofs.lemmas.Option.{slice_get_within}
use Rattle.lq_base_numbers.specs.Rationals.Rational.{ℚ, whole, ◌+ℚ◌, ◌*ℚ◌}
use Rattle.lq_base_numbers.specs.Rationals.Solver.{var, con, ◌⊕◌, ◌⊗◌, solve}
use Rattle.lq_logic_rows.specs.Difference.{TermsBelow}
use Rattle.lq_logic_rows.specs.Forms.{Parts}
use Rattle.lq_logic_rows.specs.Row.{Valuation, sum_at}
use Rattle.lq_prover_pivots.specs.Cramer.Sizes.{WithinWhole}
use Rattle.lq_prover_pivots.proofs.CramerLemmas.Parts.{AllWithin}
use Rattle.lq_prover_pivots.proofs.CramerLemmas.Sizes.{mul_at_most, within_same, within_more, within_zero, within_sum, within_product}
use Rattle.lq_prover_pivots.specs.Work.Needs.{LowestWithin, TogetherWithin}
use Rattle.lq_prover_pivots.proofs.WorkLemmas.Over.{lowest_by, sum_by, within_whole}
use Rattle.lq_prover_pivots.proofs.WorkLemmas.Scene.{AreParts}

-- each value times q is whole and of size at most b
abbrev pub AreValued : ℕ → ℕ → ℤ → Valuation → Type 0
AreValued n b q v = (t : ℕ) → t < n → WithinWhole b (v t *ℚ whole q)

pub member_at : (n c : ℕ) (parts : Parts) (i t : ℕ) (z : ℤ) → TermsBelow n parts → AllWithin c parts → slice_get parts i ≡ Some (t, z)
    → (t < n) × (unsigned_abs z ≤ c)
member_at n c [] i t z b w e = cc
member_at n c (x ∷ parts) zero t z b w e =
    let p : x ≡ (t, z) = cc in subst (λ (y : ℕ × ℤ). (y.0 < n) × (unsigned_abs y.1 ≤ c)) p (b.0, w.0)
member_at n c (x ∷ parts) (suc i) t z b w e = member_at n c parts i t z b.1 w.1 e

member_within : (a b : ℕ) (z q : ℤ) (x : ℚ) → unsigned_abs z ≤ a → WithinWhole b (x *ℚ whole q) → WithinWhole (a * b) (whole z *ℚ x *ℚ whole q)
member_within a b z q x h w =
    within_same (a * b) (whole z *ℚ x *ℚ whole q) (whole z *ℚ (x *ℚ whole q))
    (solve (whole z ∷ x ∷ whole q ∷ []) (var 0 ⊗ var 1 ⊗ var 2) (var 0 ⊗ (var 1 ⊗ var 2)) refl)
    (within_product a b (whole z) (x *ℚ whole q) (within_whole a z h) w)

-- the sum of the first i members
front_within : (v : Valuation) (q : ℤ) (a b n i : ℕ) (parts : Parts) → AreValued n b q v → TermsBelow n parts → AllWithin a parts
    → WithinWhole (i * (a * b)) (sum_at v (take i parts) *ℚ whole q)
front_within v q a b n zero parts h t w =
    within_same (0 * (a * b)) (whole (pos 0) *ℚ whole q) (whole (pos 0)) (solve (whole q ∷ []) (con (pos 0) ⊗ var 0) (con (pos 0)) refl) (within_zero (0 * (a * b)))
front_within v q a b n (suc i) [] h t w =
    within_same (suc i * (a * b)) (whole (pos 0) *ℚ whole q) (whole (pos 0)) (solve (whole q ∷ []) (con (pos 0) ⊗ var 0) (con (pos 0)) refl) (within_zero (suc i * (a * b)))
front_within v q a b n (suc i) (part ∷ parts) h t w =
    let one = member_within a b part.1 q (v part.0) w.0 (h part.0 t.0) in
    let rest = front_within v q a b n i parts h t.1 w.1 in
    within_more (a * b + i * (a * b)) (suc i * (a * b)) ((whole part.1 *ℚ v part.0 +ℚ sum_at v (take i parts)) *ℚ whole q) (omega arith)
    (within_same (a * b + i * (a * b)) ((whole part.1 *ℚ v part.0 +ℚ sum_at v (take i parts)) *ℚ whole q)
    (whole part.1 *ℚ v part.0 *ℚ whole q +ℚ sum_at v (take i parts) *ℚ whole q)
    (solve ((whole part.1 *ℚ v part.0) ∷ sum_at v (take i parts) ∷ whole q ∷ []) ((var 0 ⊕ var 1) ⊗ var 2) (var 0 ⊗ var 2 ⊕ var 1 ⊗ var 2) refl)
    (within_sum (a * b) (i * (a * b)) (whole part.1 *ℚ v part.0 *ℚ whole q) (sum_at v (take i parts) *ℚ whole q) one rest))

-- a common denominator of the values, and how large the numbers may be
pub record Sums (v : Valuation) (q : ℤ) (a b n numer denom : ℕ) (parts : Parts) : Type 0 where
  pub values : AreValued n b q v
  pub apart : ¬ (q ≡ pos 0)
  pub small : unsigned_abs q ≤ denom
  pub parts_are : AreParts n a parts
  pub limit : n * (a * b) ≤ numer

inside : (v : Valuation) (q : ℤ) (a b n numer denom : ℕ) (parts : Parts) (i t : ℕ) (z : ℤ) → Sums v q a b n numer denom parts
    → slice_get parts i ≡ Some (t, z) → suc i * (a * b) ≤ numer
inside v q a b n numer denom parts i t z s e =
    let l = slice_get_within parts i (t, z) e in
    let short = s.parts_are.short in
    let limit = s.limit in
    let h : suc i * (a * b) ≤ n * (a * b) = mul_at_most (suc i) (a * b) n (a * b) (omega arith) (omega arith) in
    omega arith

pub product_needs : (v : Valuation) (q : ℤ) (a b n numer denom : ℕ) (parts : Parts) (i t : ℕ) (z : ℤ) → Sums v q a b n numer denom parts
    → slice_get parts i ≡ Some (t, z) → LowestWithin numer denom (whole z *ℚ v t)
product_needs v q a b n numer denom parts i t z s e =
    let m = member_at n a parts i t z s.parts_are.below s.parts_are.within e in
    let l = inside v q a b n numer denom parts i t z s e in
    lowest_by numer denom (whole z *ℚ v t) q s.apart s.small
    (within_more (a * b) numer (whole z *ℚ v t *ℚ whole q) (omega arith) (member_within a b z q (v t) m.1 (s.values t m.0)))

pub member_needs : (v : Valuation) (q : ℤ) (a b n numer denom : ℕ) (parts : Parts) (i t : ℕ) (z : ℤ) → Sums v q a b n numer denom parts
    → slice_get parts i ≡ Some (t, z) → TogetherWithin numer denom (λ s t. s +ℤ t) (sum_at v (take i parts)) (whole z *ℚ v t)
member_needs v q a b n numer denom parts i t z s e =
    let m = member_at n a parts i t z s.parts_are.below s.parts_are.within e in
    let l = inside v q a b n numer denom parts i t z s e in
    sum_by numer denom (i * (a * b)) (a * b) (sum_at v (take i parts)) (whole z *ℚ v t) q s.apart s.small
    (front_within v q a b n i parts s.values s.parts_are.below s.parts_are.within)
    (member_within a b z q (v t) m.1 (s.values t m.0))
    (omega arith)

pub constant_needs : (v : Valuation) (q : ℤ) (a b n numer denom k : ℕ) (parts : Parts) (z : ℤ) → Sums v q a b n numer denom parts
    → WithinWhole k (whole z *ℚ whole q) → TogetherWithin (numer + k) denom (λ s t. s +ℤ t) (sum_at v parts) (whole z)
constant_needs v q a b n numer denom k parts z s w =
    let short = s.parts_are.short in
    let limit = s.limit in
    let h : length parts * (a * b) ≤ n * (a * b) = mul_at_most (length parts) (a * b) n (a * b) short (omega arith) in
    sum_by (numer + k) denom (length parts * (a * b)) k (sum_at v parts) (whole z) q s.apart s.small
    (subst (λ (ps : Parts). WithinWhole (length parts * (a * b)) (sum_at v ps *ℚ whole q)) (take-length parts)
    (front_within v q a b n (length parts) parts s.values s.parts_are.below s.parts_are.within))
    w
    (omega arith)
