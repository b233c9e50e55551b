-- How a row is read as a bound of a form.
use Rattle.std.proofs.Common.{◌≡◌, ◌≢◌, ℕ, zero, suc, pos, ◌<◌, ◌*◌, ◌^◌, arith, refl, sym, ap, ap₂, subst, ◌∙◌, Bool, true, false, [], ◌∷◌, ◌++◌, All, length, get_or, unsigned_abs, FitsSigned}
use Rattle.std.proofs.Math.IntN.{ℤ, negsuc, ◌*ℤ◌, neg_ℤ}
use Rattle.std.specs.Int.{w128, ◌∣◌}
use Rattle.std.specs.Int.Signed.{◌<ℤ◌}
use Rattle.std.proofs.lemmas.Int.{ints, unsigned_abs-mul}
use Rattle.std.proofs.lemmas.List.Elements.{All-head}
use Rattle.std.proofs.lemmas.Nat.Gcd.{dvd_trans, le_of_dvd}
use Rattle.std.proofs.Math.Nat.{pos_of_dvd_of_pos, eq-one_of_dvd-one, mul-dvd-mul_right, dvd_of_mul-dvd-mul_right}
use Rattle.lq_base_numbers.specs.Rationals.Rational.{ℚ, whole, ◌+ℚ◌, ◌-ℚ◌, ◌*ℚ◌, neg_ℚ}
use Rattle.lq_base_numbers.specs.Rationals.Whole.{whole-product, whole-negation, whole_below}
use Rattle.lq_base_numbers.specs.Rationals.OrderLaws.{<ℚ_apart}
use Rattle.lq_base_numbers.specs.Rationals.RationalQuotient.{◌/ℚ◌, /ℚ_is}
use Rattle.lq_base_numbers.specs.Rationals.NumberForms.{HasNoForm, HasNoForm-from}
use Rattle.lq_base_numbers.specs.Rationals.Solver.{var, con, ◌⊕◌, ◌⊖◌, ◌⊗◌, solve}
use Rattle.lq_logic_rows.specs.Row.{Valuation, sum_at}
use Rattle.lq_logic_rows.specs.Forms.{Parts, DividesAll, IsAbove, FirstAbove, IsNormal}
use Rattle.lq_logic_rows.specs.Difference.{TermsBelow}
use Rattle.lq_prover_simplex.specs.Standing.{signed}
use Rattle.lq_prover_simplex.specs.RowParts.{IsGreatest, turned_by, IsTurned, IsDivided}

-- ---- parts that grow at their end
pub divides_more : (d e : ℕ) (parts : Parts) → DividesAll d parts → e ∣ d → DividesAll e parts
divides_more d e [] a h = tt
divides_more d e (p ∷ parts) a h = (dvd_trans e h a.0, divides_more d e parts a.1 h)

pub divides_push : (d : ℕ) (parts : Parts) (p : ℕ × ℤ) → DividesAll d parts → d ∣ unsigned_abs p.1 → DividesAll d (parts ++ p ∷ [])
divides_push d [] p a h = (h, tt)
divides_push d (q ∷ parts) p a h = (a.0, divides_push d parts p a.1 h)

pub divides_at : (d : ℕ) (parts : Parts) (i : ℕ) (x : ℕ × ℤ) → DividesAll d parts → i < length parts → d ∣ unsigned_abs (get_or parts i x).1
divides_at d [] i x a h = absurd (omega arith)
divides_at d (p ∷ parts) zero x a h = a.0
divides_at d (p ∷ parts) (suc i) x a h = divides_at d parts i x a.1 (omega arith)

divides_before : (e : ℕ) (parts : Parts) (p : ℕ × ℤ) → DividesAll e (parts ++ p ∷ []) → DividesAll e parts × (e ∣ unsigned_abs p.1)
divides_before e [] p a = (tt, a.0)
divides_before e (q ∷ parts) p a = let r = divides_before e parts p a.1 in ((a.0, r.0), r.1)

pub greatest_push : (d g : ℕ) (parts : Parts) (p : ℕ × ℤ) → IsGreatest d parts → ((e : ℕ) → e ∣ d → e ∣ unsigned_abs p.1 → e ∣ g) → IsGreatest g (parts ++ p ∷ [])
greatest_push d g parts p a h e all = let b = divides_before e parts p all in h e (a e b.0) b.1

pub divides_first : (e : ℕ) (parts : Parts) (x : ℕ × ℤ) → FirstAbove false parts → DividesAll e parts → e ∣ unsigned_abs (get_or parts 0 x).1
divides_first e [] x h a = absurd h
divides_first e (p ∷ parts) x h a = a.0

pub turned_push : (t : Bool) (parts made : Parts) (p q : ℕ × ℤ) → IsTurned t parts made → q.0 ≡ p.0 → q.1 ≡ turned_by t p.1 → IsTurned t (parts ++ p ∷ []) (made ++ q ∷ [])
turned_push t [] [] p q a e f = (e, f, tt)
turned_push t [] (m ∷ made) p q a e f = absurd a
turned_push t (o ∷ parts) [] p q a e f = absurd a
turned_push t (o ∷ parts) (m ∷ made) p q a e f = (a.0, a.1, turned_push t parts made p q a.2 e f)

pub divided_push : (by : ℤ) (parts made : Parts) (p q : ℕ × ℤ) → IsDivided by parts made → q.0 ≡ p.0 → p.1 ≡ q.1 *ℤ by → IsDivided by (parts ++ p ∷ []) (made ++ q ∷ [])
divided_push by [] [] p q a e f = (e, f, tt)
divided_push by [] (m ∷ made) p q a e f = absurd a
divided_push by (o ∷ parts) [] p q a e f = absurd a
divided_push by (o ∷ parts) (m ∷ made) p q a e f = (a.0, a.1, divided_push by parts made p q a.2 e f)

-- ---- their sums, terms and signs
pub turned_whole : (t : Bool) (n : ℤ) → whole (turned_by t n) ≡ signed t (whole n)
turned_whole true n = sym (whole-negation n)
turned_whole false n = refl

signed_sum : (t : Bool) (a b c : ℚ) → signed t a *ℚ b +ℚ signed t c ≡ signed t (a *ℚ b +ℚ c)
signed_sum true a b c = solve (a ∷ b ∷ c ∷ []) ((con (pos 0) ⊖ var 0) ⊗ var 1 ⊕ (con (pos 0) ⊖ var 2)) (con (pos 0) ⊖ (var 0 ⊗ var 1 ⊕ var 2)) refl
signed_sum false a b c = refl

signed_nothing : (t : Bool) → whole (pos 0) ≡ signed t (whole (pos 0))
signed_nothing true = solve [] (con (pos 0)) (con (pos 0) ⊖ con (pos 0)) refl
signed_nothing false = refl

pub turned_sum : (t : Bool) (v : Valuation) (parts made : Parts) → IsTurned t parts made → sum_at v made ≡ signed t (sum_at v parts)
turned_sum t v [] [] a = signed_nothing t
turned_sum t v [] (m ∷ made) a = absurd a
turned_sum t v (o ∷ parts) [] a = absurd a
turned_sum t v (o ∷ parts) (m ∷ made) a =
    ap₂ (λ c k. whole c *ℚ v k +ℚ sum_at v made) a.1 a.0
    ∙ ap₂ (λ c s. c *ℚ v o.0 +ℚ s) (turned_whole t o.1) (turned_sum t v parts made a.2)
    ∙ signed_sum t (whole o.1) (v o.0) (sum_at v parts)

pub divided_sum : (by : ℤ) (v : Valuation) (parts made : Parts) → IsDivided by parts made → sum_at v parts ≡ whole by *ℚ sum_at v made
divided_sum by v [] [] a = solve (whole by ∷ []) (con (pos 0)) (var 0 ⊗ con (pos 0)) refl
divided_sum by v [] (m ∷ made) a = absurd a
divided_sum by v (o ∷ parts) [] a = absurd a
divided_sum by v (o ∷ parts) (m ∷ made) a =
    ap₂ (λ c s. c *ℚ v o.0 +ℚ s) (ap whole a.1 ∙ sym (whole-product m.1 by)) (divided_sum by v parts made a.2)
    ∙ ap (λ k. whole m.1 *ℚ whole by *ℚ v k +ℚ whole by *ℚ sum_at v made) (sym a.0)
    ∙ solve (whole m.1 ∷ whole by ∷ v m.0 ∷ sum_at v made ∷ []) (var 0 ⊗ var 1 ⊗ var 2 ⊕ var 1 ⊗ var 3) (var 1 ⊗ (var 0 ⊗ var 2 ⊕ var 3)) refl

pub turned_below : (t : Bool) (n : ℕ) (parts made : Parts) → IsTurned t parts made → TermsBelow n parts → TermsBelow n made
turned_below t n [] [] a b = tt
turned_below t n [] (m ∷ made) a b = absurd a
turned_below t n (o ∷ parts) [] a b = absurd a
turned_below t n (o ∷ parts) (m ∷ made) a b = (subst (λ k. k < n) (sym a.0) b.0, turned_below t n parts made a.2 b.1)

pub divided_below : (by : ℤ) (n : ℕ) (parts made : Parts) → IsDivided by parts made → TermsBelow n parts → TermsBelow n made
divided_below by n [] [] a b = tt
divided_below by n [] (m ∷ made) a b = absurd a
divided_below by n (o ∷ parts) [] a b = absurd a
divided_below by n (o ∷ parts) (m ∷ made) a b = (subst (λ k. k < n) (sym a.0) b.0, divided_below by n parts made a.2 b.1)

above_turned : (t : Bool) (n : ℤ) → IsAbove t n → pos 0 <ℤ turned_by t n
above_turned true n h = omega (arith, ints)
above_turned false n h = h

pub turned_first : (t : Bool) (parts made : Parts) → IsTurned t parts made → FirstAbove t parts → FirstAbove false made
turned_first t [] made a h = absurd h
turned_first t (o ∷ parts) [] a h = absurd a
turned_first t (o ∷ parts) (m ∷ made) a h = subst (λ n. pos 0 <ℤ n) (sym a.1) (above_turned t o.1 h)

abs_above : (n : ℤ) → pos 0 <ℤ n → FitsSigned w128 n → (0 < unsigned_abs n) × (unsigned_abs n < 2 ^ 127)
abs_above n h f = (omega (arith, ints), omega (arith, ints))

pub shared_bounds : (d : ℕ) (parts : Parts) (x : ℕ × ℤ) → FirstAbove false parts → FitsSigned w128 (get_or parts 0 x).1 → d ∣ unsigned_abs (get_or parts 0 x).1 → (0 < d) × (d < 2 ^ 127)
shared_bounds d [] x h f a = absurd h
shared_bounds d (p ∷ parts) x h f a =
    let b = abs_above p.1 h f in
    (pos_of_dvd_of_pos a b.0, (let l = le_of_dvd b.0 a in omega (arith, b.1)))

pub first_above : (parts : Parts) (x : ℕ × ℤ) (t : Bool) → 0 < length parts → All (λ part. part.1 ≢ pos 0) parts → IsAbove t (get_or parts 0 x).1 → FirstAbove t parts
first_above [] x t h n a = absurd (omega arith)
first_above (p ∷ parts) x t h n a = a

pub first_apart : (parts : Parts) (x : ℕ × ℤ) → 0 < length parts → All (λ part. part.1 ≢ pos 0) parts → (get_or parts 0 x).1 ≢ pos 0
first_apart [] x h n = absurd (omega arith)
first_apart (p ∷ parts) x h n = All-head (λ part. part.1 ≢ pos 0) p parts n

-- ---- the parts over their greatest common divisor
divides_times : (d e : ℕ) (made form : Parts) → IsDivided (pos d) made form → DividesAll e form → DividesAll (e * d) made
divides_times d e [] [] a h = tt
divides_times d e [] (f ∷ form) a h = absurd a
divides_times d e (m ∷ made) [] a h = absurd a
divides_times d e (m ∷ made) (f ∷ form) a h = (
  subst (λ n. e * d ∣ n) (sym (ap unsigned_abs a.1 ∙ unsigned_abs-mul f.1 (pos d))) (mul-dvd-mul_right e h.0 d),
  divides_times d e made form a.2 h.1,
)

not_above : (k : ℕ) → pos 0 <ℤ neg_ℤ (pos k) → ⊥
not_above zero h = omega (arith, ints)
not_above (suc k) h = omega (arith, ints)

factor_above : (n : ℤ) (d : ℕ) → pos 0 <ℤ (n *ℤ pos d) → pos 0 <ℤ n
factor_above (pos zero) d h = absurd (let k : ⊥ = omega (arith, ints) in k)
factor_above (pos (suc n)) d h = omega (arith, ints)
factor_above (negsuc n) d h = absurd (not_above (suc n * d) h)

divided_first : (d : ℕ) (made form : Parts) → IsDivided (pos d) made form → FirstAbove false made → FirstAbove false form
divided_first d [] form a h = absurd h
divided_first d (m ∷ made) [] a h = absurd a
divided_first d (m ∷ made) (f ∷ form) a h = factor_above f.1 d (subst (λ n. pos 0 <ℤ n) a.1 h)

pub form_normal : (d : ℕ) (made form : Parts) → 0 < d → FirstAbove false made → IsGreatest d made → IsDivided (pos d) made form → IsNormal form
form_normal d made form some above greatest a = record {
  above = divided_first d made form a above;
  lowest = λ e h.
      let whole : e * d ∣ 1 * d = subst (λ n. e * d ∣ n) (let q : d ≡ 1 * d = omega arith in q) (greatest (e * d) (divides_times d e made form a h)) in
      eq-one_of_dvd-one (dvd_of_mul-dvd-mul_right e some whole);
}

-- ---- the row as a bound
pub reading_is : (t : Bool) (s d f b c : ℚ) → d *ℚ f ≡ signed t s → signed t (d *ℚ b) ≡ neg_ℚ c → s +ℚ c ≡ signed t d *ℚ (f -ℚ b)
reading_is true s d f b c e g =
    solve (s ∷ c ∷ []) (var 0 ⊕ var 1) ((con (pos 0) ⊖ (con (pos 0) ⊖ var 0)) ⊖ (con (pos 0) ⊖ var 1)) refl
    ∙ ap₂ (λ x y. neg_ℚ x -ℚ y) (sym e) (sym g)
    ∙ solve (d ∷ f ∷ b ∷ []) ((con (pos 0) ⊖ var 0 ⊗ var 1) ⊖ (con (pos 0) ⊖ var 0 ⊗ var 2)) ((con (pos 0) ⊖ var 0) ⊗ (var 1 ⊖ var 2)) refl
reading_is false s d f b c e g =
    solve (s ∷ c ∷ []) (var 0 ⊕ var 1) (var 0 ⊖ (con (pos 0) ⊖ var 1)) refl
    ∙ ap₂ (λ x y. x -ℚ y) (sym e) (sym g)
    ∙ solve (d ∷ f ∷ b ∷ []) (var 0 ⊗ var 1 ⊖ var 0 ⊗ var 2) (var 0 ⊗ (var 1 ⊖ var 2)) refl

pub row_reads : (t : Bool) (v : Valuation) (parts made form : Parts) (constant : ℤ) (d : ℕ) (b : ℚ) → IsTurned t parts made → IsDivided (pos d) made form
    → signed t (whole (pos d) *ℚ b) ≡ neg_ℚ (whole constant) → sum_at v parts +ℚ whole constant ≡ signed t (whole (pos d)) *ℚ (sum_at v form -ℚ b)
row_reads t v parts made form constant d b a h g =
    reading_is t (sum_at v parts) (whole (pos d)) (sum_at v form) b (whole constant) (sym (divided_sum (pos d) v made form h) ∙ turned_sum t v parts made a) g

-- ---- numbers
pub negation_past : (k : ℤ) (x : ℚ) → x ≡ whole k → ¬ (FitsSigned w128 (neg_ℤ k)) → HasNoForm (neg_ℚ x)
negation_past k x e past =
    HasNoForm-from (neg_ℚ x) (neg_ℤ k) 1
    (record { positive = omega arith; lowest = λ m p q. eq-one_of_dvd-one q; same = sym (ap neg_ℚ e ∙ whole-negation k) })
    (λ h. past h.0)

pub whole_apart : (d : ℕ) (w : ℚ) → 0 < d → w ≡ whole (pos d) → ¬ (w ≡ whole (pos 0))
whole_apart d w h e z = <ℚ_apart (whole (pos 0)) (whole (pos d)) (whole_below (pos 0) (pos d) (omega (arith, ints))) (sym z ∙ e)

pub bound_is : (t : Bool) (d : ℕ) (w n q c : ℚ) → 0 < d → w ≡ whole (pos d) → q ≡ n /ℚ w → signed t n ≡ c → signed t (whole (pos d) *ℚ q) ≡ c
bound_is t d w n q c h e s g =
    ap (signed t) (solve (whole (pos d) ∷ q ∷ []) (var 0 ⊗ var 1) (var 1 ⊗ var 0) refl ∙ ap₂ (λ a b. a *ℚ b) s (sym e) ∙ /ℚ_is n w (whole_apart d w h e)) ∙ g
