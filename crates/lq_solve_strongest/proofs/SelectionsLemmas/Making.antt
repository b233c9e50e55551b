-- Each literal of an implication has a row over its terms.
use Rattle.std.proofs.Common.{◌≡◌, ◌≢◌, ℕ, ℤ, suc, pos, ◌+◌, ◌<◌, ◌≤◌, ◌||◌, arith, refl, sym, ap, ap₂, subst, ◌∙◌, Bool, true, false, List, [], ◌∷◌, Option, Some, None, All, length, if◌then◌else◌}
use Rattle.std.specs.List.{Contains}
use Rattle.std.specs.Ordering.{int_eq}
use Rattle.std.proofs.Math.IntN.{◌+ℤ◌, ◌-ℤ◌, ◌*ℤ◌, *ℤ-zero}
use Rattle.std.proofs.lemmas.Bool.Decides.{Decides-int_eq}
use Rattle.std.proofs.lemmas.List.Elements.{All-cons, All-head, All-nil, All-tail}
use Rattle.lq_prover_proof_tree.specs.Trees.Proves.{AreRowsOf}
use Rattle.lq_logic_rows.specs.Row.{Row, AscendsFrom}
use Rattle.lq_logic_rows.specs.Forms.{Parts}
use Rattle.lq_logic_predicates.proofs.FormSums.{OnLiterals, Stands}
use Rattle.lq_logic_predicates.proofs.RowParts.{entry-below, entry-here, entry-past}
use Rattle.lq_logic_predicates.specs.ClosedImplication.{ClosedImplication, terms_in}
use Rattle.lq_logic_predicates.specs.Comparison.{Comparison, IsRowOf, entry, row_coefficient, row_constant}
use Rattle.lq_logic_predicates.specs.LinearForm.{coefficient, one_at, scaled}
use Rattle.lq_logic_predicates.specs.Literals.{implication_literals}
use Rattle.lq_logic_predicates.specs.Numbering.{index_of-absent}
use Rattle.lq_logic_predicates.specs.SameLaws.{same-is}
use Rattle.lq_logic_predicates.specs.Sum.{Sum, whole, var, neg, add, sub, mul, div, rem, len, measure, same}
use Rattle.lq_logic_predicates.specs.Table.{has_term, index_of, literal_of}
use Rattle.lq_solve_strongest.proofs.SelectionsLemmas.Entries.{AreSome}
use Rattle.lq_solve_strongest.proofs.SelectionsLemmas.Standing.{Stand, literals_stand}

-- ---- a form has no coefficient at a term that isn't there

other_one : (l : List Sum) (s t : Sum) → has_term l s ≡ true → has_term l t ≡ false → one_at s t ≡ pos 0
other_one l s t there absent = by (same s t) refl
  where
    by : (b : Bool) → same s t ≡ b → (if b then pos 1 else pos 0) ≡ pos 0
    by true e = let is : has_term l s ≡ has_term l t = ap (has_term l) (same-is s t e) in absurd (cc)
    by false e = refl

outside : (l : List Sum) (s t : Sum) → Stands l s → has_term l t ≡ false → coefficient s t ≡ pos 0
outside l (whole n) t h absent = refl
outside l (var x) t h absent = other_one l (var x) t h absent
outside l (neg a) t h absent = ap (λ z. pos 0 -ℤ z) (outside l a t h absent)
outside l (add a b) t h absent = ap₂ (λ y z. y +ℤ z) (outside l a t h.0 absent) (outside l b t h.1 absent)
outside l (sub a b) t h absent = ap₂ (λ y z. y -ℤ z) (outside l a t h.0 absent) (outside l b t h.1 absent)
outside l (mul a b) t h absent = by (literal_of a) (literal_of b) h (λ k. outside l a t k absent) (λ k. outside l b t k absent)
  where
    by : (o p : Option ℤ) → OnLiterals o p (Stands l a × Stands l b) (has_term l (mul a b) ≡ true) → (Stands l a → coefficient a t ≡ pos 0)
        → (Stands l b → coefficient b t ≡ pos 0) → scaled o p (coefficient a t) (coefficient b t) (one_at (mul a b) t) ≡ pos 0
    by (Some n) p k f g = ap (λ z. n *ℤ z) (g k.1) ∙ *ℤ-zero n
    by None (Some n) k f g = ap (λ z. n *ℤ z) (f k.0) ∙ *ℤ-zero n
    by None None k f g = other_one l (mul a b) t k absent
outside l (div a b) t h absent = other_one l (div a b) t h absent
outside l (rem a b) t h absent = other_one l (rem a b) t h absent
outside l (len a) t h absent = other_one l (len a) t h absent
outside l (measure f a) t h absent = other_one l (measure f a) t h absent

-- ---- the coefficients that aren't 0, under their terms' numbers

abbrev put_part : Bool → ℕ → ℤ → Parts → Parts
put_part true k z parts = parts
put_part false k z parts = (k, z) ∷ parts

abbrev made_parts : (Sum → ℤ) → ℕ → List Sum → Parts
made_parts F k [] = []
made_parts F k (t ∷ ts) = put_part (int_eq (F t) (pos 0)) k (F t) (made_parts F (suc k) ts)

-- what a further part is: a coefficient of 0 adds none
data IsPut (k : ℕ) (z : ℤ) (parts : Parts) (made : Parts) : Type 0 where
  skipped : z ≡ pos 0 → made ≡ parts → IsPut k z parts made
  added : z ≢ pos 0 → made ≡ (k, z) ∷ parts → IsPut k z parts made

is_put : (k : ℕ) (z : ℤ) (parts : Parts) → IsPut k z parts (put_part (int_eq z (pos 0)) k z parts)
is_put k z parts = by (int_eq z (pos 0)) refl
  where
    by : (b : Bool) → int_eq z (pos 0) ≡ b → IsPut k z parts (put_part b k z parts)
    by true e = IsPut.skipped ((Decides-int_eq z (pos 0)).0 e) refl
    by false e = IsPut.added (λ h. let t : int_eq z (pos 0) ≡ true = (Decides-int_eq z (pos 0)).1 h in absurd (cc)) refl

from_lower : (low high : ℕ) (parts : Parts) → low ≤ high → AscendsFrom high parts → AscendsFrom low parts
from_lower low high [] l a = tt
from_lower low high (x ∷ parts) l a = let h = a.0 in (omega arith, a.1)

made_ascends : (F : Sum → ℤ) (k : ℕ) (ts : List Sum) → AscendsFrom k (made_parts F k ts)
made_ascends F k [] = tt
made_ascends F k (t ∷ ts) = by (made_ascends F (suc k) ts) (is_put k (F t) (made_parts F (suc k) ts))
  where
    by : AscendsFrom (suc k) (made_parts F (suc k) ts) → IsPut k (F t) (made_parts F (suc k) ts) (made_parts F k (t ∷ ts)) → AscendsFrom k (made_parts F k (t ∷ ts))
    by a (IsPut.skipped z e) = subst (AscendsFrom k) (sym e) (from_lower k (suc k) (made_parts F (suc k) ts) (omega arith) a)
    by a (IsPut.added n e) = subst (AscendsFrom k) (sym e) (omega arith, a)

made_some : (F : Sum → ℤ) (k : ℕ) (ts : List Sum) → AreSome (made_parts F k ts)
made_some F k [] = All-nil _
made_some F k (t ∷ ts) = by (made_some F (suc k) ts) (is_put k (F t) (made_parts F (suc k) ts))
  where
    by : AreSome (made_parts F (suc k) ts) → IsPut k (F t) (made_parts F (suc k) ts) (made_parts F k (t ∷ ts)) → AreSome (made_parts F k (t ∷ ts))
    by a (IsPut.skipped z e) = subst AreSome (sym e) a
    by a (IsPut.added n e) = subst AreSome (sym e) (All-cons (λ (p : ℕ × ℤ). p.1 ≢ pos 0) (k, F t) (made_parts F (suc k) ts) n a)

-- at its own number and at greater ones
first_entry : (F : Sum → ℤ) (k : ℕ) (t : Sum) (ts : List Sum) → entry (made_parts F k (t ∷ ts)) k ≡ F t
first_entry F k t ts = by (is_put k (F t) (made_parts F (suc k) ts))
  where
    by : IsPut k (F t) (made_parts F (suc k) ts) (made_parts F k (t ∷ ts)) → entry (made_parts F k (t ∷ ts)) k ≡ F t
    by (IsPut.skipped z e) = ap (λ p. entry p k) e ∙ entry-past (suc k) k (made_parts F (suc k) ts) (made_ascends F (suc k) ts) (omega arith) ∙ sym z
    by (IsPut.added n e) = ap (λ p. entry p k) e ∙ entry-here (k, F t) (made_parts F (suc k) ts)

later_entry : (F : Sum → ℤ) (k q : ℕ) (t : Sum) (ts : List Sum) → k < q → entry (made_parts F k (t ∷ ts)) q ≡ entry (made_parts F (suc k) ts) q
later_entry F k q t ts l = by (is_put k (F t) (made_parts F (suc k) ts))
  where
    by : IsPut k (F t) (made_parts F (suc k) ts) (made_parts F k (t ∷ ts)) → entry (made_parts F k (t ∷ ts)) q ≡ entry (made_parts F (suc k) ts) q
    by (IsPut.skipped z e) = ap (λ p. entry p q) e
    by (IsPut.added n e) = ap (λ p. entry p q) e ∙ entry-below (k, F t) (made_parts F (suc k) ts) q l

made_within : (F : Sum → ℤ) (k q : ℕ) (ts : List Sum) → k + length ts ≤ q → entry (made_parts F k ts) q ≡ pos 0
made_within F k q [] l = refl
made_within F k q (t ∷ ts) l = later_entry F k q t ts (omega arith) ∙ made_within F (suc k) q ts (omega arith)

made_entry : (F : Sum → ℤ) (k : ℕ) (ts : List Sum) (t : Sum) → has_term ts t ≡ true → entry (made_parts F k ts) (k + index_of ts t) ≡ F t
made_entry F k [] t h = absurd (cc)
made_entry F k (u ∷ ts) t h = by (same t u) refl h (made_entry F (suc k) ts t)
  where
    by : (b : Bool) → same t u ≡ b → (b || has_term ts t) ≡ true → (has_term ts t ≡ true → entry (made_parts F (suc k) ts) (suc k + index_of ts t) ≡ F t)
        → entry (made_parts F k (u ∷ ts)) (k + (if b then 0 else suc (index_of ts t))) ≡ F t
    by true e g rest =
        ap (entry (made_parts F k (u ∷ ts))) (let z : k + 0 ≡ k = omega arith in z) ∙ first_entry F k u ts ∙ ap F (sym (same-is t u e))
    by false e g rest =
        later_entry F k (k + suc (index_of ts t)) u ts (omega arith)
        ∙ ap (entry (made_parts F (suc k) ts)) (let z : k + suc (index_of ts t) ≡ suc k + index_of ts t = omega arith in z) ∙ rest g

-- ---- rows

abbrev made_row : List Sum → Comparison → Row
made_row l c = record { parts = made_parts (row_coefficient c) 0 l; constant = row_constant c; equal = c.equal }

row_made : (l : List Sum) (c : Comparison) → Stand l c → IsRowOf l c (made_row l c)
row_made l c h = record {
  formed = record { ascending = made_ascends (row_coefficient c) 0 l; nonzero = made_some (row_coefficient c) 0 l };
  constant = refl;
  equal = refl;
  coefficients = λ t. by t (has_term l t) refl;
  within = λ q o. made_within (row_coefficient c) 0 q l (omega arith);
}
  where
    by : (t : Sum) (b : Bool) → has_term l t ≡ b → entry (made_parts (row_coefficient c) 0 l) (index_of l t) ≡ row_coefficient c t
    by t true e =
        ap (entry (made_parts (row_coefficient c) 0 l)) (let z : index_of l t ≡ 0 + index_of l t = omega arith in z) ∙ made_entry (row_coefficient c) 0 l t e
    by t false e =
        made_within (row_coefficient c) 0 (index_of l t) l (let z = index_of-absent l t e in omega arith)
        ∙ sym (ap₂ (λ y z. y -ℤ z) (outside l c.left t h.left e) (outside l c.right t h.right e))

rows_made : (l : List Sum) (cs : List Comparison) → All (Stand l) cs → (rows : List Row) × AreRowsOf l cs rows
rows_made l [] h = ([], tt)
rows_made l (c ∷ cs) h =
    let rest = rows_made l cs (All-tail (Stand l) c cs h) in (made_row l c ∷ rest.0, (row_made l c (All-head (Stand l) c cs h), rest.1))

pub row_exists : (i : ClosedImplication) (c : Comparison) → Contains (implication_literals i) c → (r : Row) × IsRowOf (terms_in i) c r
row_exists i c there =
    (made_row (terms_in i) c, row_made (terms_in i) c (subst (Stand (terms_in i)) there.2 (literals_stand i there.0 c there.1)))

pub rows_exist : (i : ClosedImplication) → (rows : List Row) × AreRowsOf (terms_in i) (implication_literals i) rows
rows_exist i = rows_made (terms_in i) (implication_literals i) (literals_stand i)
