-- Whole numbers over one denominator, and the entries that they stand for.
use Rattle.std.proofs.Common.{◌≡◌, ℕ, zero, suc, pos, ◌+◌, ◌-◌, ◌*◌, ◌/◌, ◌%◌, ◌<◌, ◌≤◌, ◌^◌, ◌⊎◌, inl, inr, arith, refl, sym, ap, ap₂, subst, ◌∙◌, unsigned_abs, int_div, FitsSigned, List, [], ◌∷◌, ◌++◌, Option, Some, None, length, get_or, slice_get}
use Rattle.std.proofs.Math.IntN.{ℤ, ◌+ℤ◌, ◌*ℤ◌}
use Rattle.std.proofs.Math.Nat.{mul-pos, div-mul_cancel, div-le_self, dvd-add, dvd-mul_left_of_dvd, dvd-mul_left, dvd-mul_right, one-dvd, pos_of_dvd_of_pos}
use Rattle.std.proofs.lemmas.Int.{ints, quot_fits}
use Rattle.std.proofs.lemmas.Nat.{div-add-mod'}
use Rattle.std.proofs.lemmas.Nat.Gcd.{dvd_trans}
use Rattle.std.specs.Int.{IsGcd, ◌∣◌, w128}
use Rattle.lq_base_numbers.specs.Rationals.IntRing.{at, nat, ◌⊗◌, ◌⊕◌, ring}
use Rattle.lq_base_numbers.specs.Rationals.Lcm.{gcd_exists}
use Rattle.lq_base_numbers.specs.Rationals.NumberForms.{HasNoForm}
use Rattle.lq_base_numbers.specs.Rationals.Rational.{ℚ, ratio, whole, ◌+ℚ◌, ◌*ℚ◌}
use Rattle.lq_base_numbers.specs.Rationals.RationalOrder.{ratio_from_cross}
use Rattle.lq_base_numbers.specs.Rationals.RationalQuotient.{◌/ℚ◌, /ℚ_once}
use Rattle.lq_base_numbers.specs.Rationals.Ratios.{ratio-sum, ratio-product, ratio_zero}
use Rattle.lq_base_numbers.specs.Rationals.Reduction.{reduced, quotient_some}
use Rattle.lq_base_numbers.specs.declared.fractions.frac.Frac.{Frac}
use Rattle.lq_base_numbers.specs.Fractions.Value.{value_of, numer_of, denom_of, fraction_once}
use Rattle.lq_logic_rows.specs.Steps.{value_or_zero}
use Rattle.lq_prover_simplex.specs.declared.line.Entry.{Entry}
use Rattle.lq_prover_simplex.specs.declared.whole.Part.{Part}
use Rattle.lq_prover_simplex.specs.declared.whole.Scale.{Scale}
use Rattle.lq_prover_simplex.specs.Lines.{IsLine, variable_at, owns, IsHead, IsPut, added, left_out}
use Rattle.lq_prover_simplex.specs.WholeLines.{fraction, fraction_value, entry_of, entries_of, only, owns_part, part_variable, IsPartHead, number_or_zero, IsPartPut, pushed, skipped, AreScales, DividesParts, AreDivided, AllDivide}
use Rattle.lq_prover_simplex.proofs.Merging.{Merged, IsLeast, merge_step, merge_falls}

-- ---- entries
pub length-entries : (ps : List Part) (d : ℕ) (p : 0 < d) (s : d < 2 ^ 127) → length (entries_of ps d p s) ≡ length ps
length-entries [] d p s = refl
length-entries (q ∷ ps) d p s = ap suc (length-entries ps d p s)

pub variable-entries : (ps : List Part) (i d : ℕ) (p : 0 < d) (s : d < 2 ^ 127) → variable_at (entries_of ps d p s) i ≡ part_variable ps i
variable-entries [] i d p s = refl
variable-entries (q ∷ ps) zero d p s = refl
variable-entries (q ∷ ps) (suc i) d p s = variable-entries ps i d p s

pub get-entries : (ps : List Part) (i : ℕ) (q : Part) (d : ℕ) (p : 0 < d) (s : d < 2 ^ 127) → slice_get ps i ≡ Some q → slice_get (entries_of ps d p s) i ≡ Some (entry_of q d p s)
get-entries [] i q d p s h = absurd (cc)
get-entries (r ∷ ps) zero q d p s h = let e : r ≡ q = cc in ap (λ (t : Part). Some (entry_of t d p s)) e
get-entries (r ∷ ps) (suc i) q d p s h = get-entries ps i q d p s h

pub push-entries : (ps : List Part) (q : Part) (d : ℕ) (p : 0 < d) (s : d < 2 ^ 127) → entries_of (ps ++ q ∷ []) d p s ≡ entries_of ps d p s ++ entry_of q d p s ∷ []
push-entries [] q d p s = refl
push-entries (r ∷ ps) q d p s = ap (λ (es : List Entry). entry_of r d p s ∷ es) (push-entries ps q d p s)

pub part_variable_of : (ps : List Part) (i : ℕ) (d : Part) → i < length ps → part_variable ps i ≡ (get_or ps i d).variable
part_variable_of [] i d h = absurd (omega arith)
part_variable_of (p ∷ ps) zero d h = refl
part_variable_of (p ∷ ps) (suc i) d h = part_variable_of ps i d (omega arith)

-- a fraction with this value
pub is_fraction : (f : Frac) (n : ℤ) (d : ℕ) (p : 0 < d) (s : d < 2 ^ 127) → value_of f ≡ ratio n d → f ≡ fraction n d p s
is_fraction f n d p s e = fraction_once f (fraction n d p s) (e ∙ sym (fraction_value n d p s))

-- whatever says that the denominator is above 0 and small
pub entries_same : (ps : List Part) (d : ℕ) (p p' : 0 < d) (s s' : d < 2 ^ 127) → entries_of ps d p s ≡ entries_of ps d p' s'
entries_same [] d p p' s s' = refl
entries_same (q ∷ ps) d p p' s s' =
    ap₂ (λ (f : Frac) (es : List Entry). (record { variable = q.variable; factor = f }) ∷ es)
    (is_fraction (fraction q.numerator d p s) q.numerator d p' s' (fraction_value q.numerator d p s)) (entries_same ps d p p' s s')

pub only_is : (ps : List Part) (v d : ℕ) (p : 0 < d) (s : d < 2 ^ 127) (f : Frac) (n : ℤ) → ps ≡ (record { variable = v; numerator = n }) ∷ [] → value_of f ≡ ratio n d
    → entries_of ps d p s ≡ only v f
only_is ps v d p s f n e h =
    ap (λ (qs : List Part). entries_of qs d p s) e ∙ ap (λ g. only v g) (sym (is_fraction f n d p s h))

-- ---- values
pub ratio-nothing : (d : ℕ) → 0 < d → ratio (pos 0) d ≡ whole (pos 0)
ratio-nothing d p = ratio_from_cross (pos 0) (pos 0) d 1 p (omega arith) (omega (arith, ints))

pub ratio-over : (a b : ℤ) (d : ℕ) → 0 < d → ratio (a +ℤ b) d ≡ ratio a d +ℚ ratio b d
ratio-over a b d p =
    ratio_from_cross (a +ℤ b) (a *ℤ pos d +ℤ b *ℤ pos d) d (d * d) p (mul-pos p p)
    (ring ((at a ⊕ at b) ⊗ nat (d * d)) ((at a ⊗ nat d ⊕ at b ⊗ nat d) ⊗ nat d) (omega arith))
    ∙ sym (ratio-sum a b d d p p)

pub ratio-quotient : (n : ℤ) (d : ℕ) → 0 < d → ¬ (whole (pos d) ≡ whole (pos 0)) → ratio n d ≡ whole n /ℚ whole (pos d)
ratio-quotient n d p some =
    /ℚ_once (whole n) (whole (pos d)) (ratio n d) some
    (ratio-product n (pos d) d 1 p (omega arith)
    ∙ ratio_from_cross (n *ℤ pos d) n (d * 1) 1 (mul-pos p (omega arith)) (omega arith)
    (ring (at n ⊗ nat d ⊗ nat 1) (at n ⊗ nat (d * 1)) (omega arith)))

-- a numerator of 128 bits over such a denominator has a form
pub has_form : (n : ℤ) (d : ℕ) → FitsSigned w128 n → 0 < d → d < 2 ^ 127 → HasNoForm (ratio n d) → ⊥
has_form n d f p s past =
    let g = gcd_exists (unsigned_abs n) d in
    let some : 0 < g.0 = pos_of_dvd_of_pos g.1.1 p in
    let r = reduced n d g.0 p g.1 in
    let less : d / g.0 ≤ d = div-le_self d g.0 in
    past (int_div n (pos g.0)) (d / g.0) (record {
      positive = r.positive;
      lowest = r.lowest;
      same = r.same;
      numer_fits = quot_fits w128 n (pos g.0) f (omega (arith, ints));
      denom_fits = omega arith;
    })

-- ---- heads
abbrev pub fraction_of : Option ℤ → (d : ℕ) → 0 < d → d < 2 ^ 127 → Option Frac
fraction_of None d p s = None
fraction_of (Some n) d p s = Some (fraction n d p s)

fraction_of-value : (o : Option ℤ) (d : ℕ) (p : 0 < d) (s : d < 2 ^ 127) → value_or_zero (fraction_of o d p s) ≡ ratio (number_or_zero o) d
fraction_of-value None d p s = sym (ratio-nothing d p)
fraction_of-value (Some n) d p s = fraction_value n d p s

part_head : (ps : List Part) (i v next : ℕ) (o : Option ℤ) (d : ℕ) (p : 0 < d) (s : d < 2 ^ 127) → IsPartHead ps i v o next → IsHead (entries_of ps d p s) i v (fraction_of o d p s) next
part_head ps i v next None d p s h = (h.0, λ l e. h.1 (subst (λ n. i < n) (length-entries ps d p s) l) (sym (variable-entries ps i d p s) ∙ e))
part_head ps i v next (Some n) d p s h = (h.0, get-entries ps i (record { variable = v; numerator = n }) d p s h.1)

part_put : (old new : List Part) (v : ℕ) (n : ℤ) (d : ℕ) (p : 0 < d) (s : d < 2 ^ 127) → IsPartPut old v n new → IsPut (entries_of old d p s) v (fraction n d p s) (entries_of new d p s)
part_put old new v n d p s (pushed h e) =
    added (λ z. h (ratio_zero n d p (sym (fraction_value n d p s) ∙ z)))
    (ap (λ (qs : List Part). entries_of qs d p s) e ∙ push-entries old (record { variable = v; numerator = n }) d p s)
part_put old new v n d p s (skipped z e) =
    left_out (fraction_value n d p s ∙ ap (λ k. ratio k d) z ∙ ratio-nothing d p) (ap (λ (qs : List Part). entries_of qs d p s) e)

-- ---- a step of the merge
abbrev pub IsLeastPart : List Part → ℕ → List Part → ℕ → ℕ → Type 0
IsLeastPart left i right j v = ((i < length left) × (v ≡ part_variable left i)) ⊎ ((j < length right) × (v ≡ part_variable right j))

least_of : (l r : List Part) (a b : ℕ) (pa : 0 < a) (sa : a < 2 ^ 127) (pb : 0 < b) (sb : b < 2 ^ 127) (i j v : ℕ)
    → IsLeastPart l i r j v → IsLeast (entries_of l a pa sa) i (entries_of r b pb sb) j v
least_of l r a b pa sa pb sb i j v (inl h) = inl (subst (λ n. i < n) (sym (length-entries l a pa sa)) h.0, h.1 ∙ sym (variable-entries l i a pa sa))
least_of l r a b pa sa pb sb i j v (inr h) = inr (subst (λ n. j < n) (sym (length-entries r b pb sb)) h.0, h.1 ∙ sym (variable-entries r j b pb sb))

scaled_sum : (w : Scale) (a b : ℕ) (t : ℚ) (n x y : ℤ) → AreScales a t b w → n ≡ w.left *ℤ x +ℤ w.right *ℤ y → ratio n w.denominator ≡ ratio x a +ℚ t *ℚ ratio y b
scaled_sum w a b t n x y s e =
    ap (λ k. ratio k w.denominator) e ∙ ratio-over (w.left *ℤ x) (w.right *ℤ y) w.denominator w.positive ∙ ap₂ (λ p q. p +ℚ q) (s.first x) (s.second y)

-- what the loop keeps
abbrev pub PartsMerged : (l r : List Part) (a b : ℕ) → 0 < a → a < 2 ^ 127 → 0 < b → b < 2 ^ 127 → ℚ → Scale → ℕ → ℕ → List Part → Type 0
PartsMerged l r a b pa sa pb sb t w i j ps = Merged (entries_of l a pa sa) (entries_of r b pb sb) t i j (entries_of ps w.denominator w.positive w.small)

pub parts_step : (l r : List Part) (a b : ℕ) (pa : 0 < a) (sa : a < 2 ^ 127) (pb : 0 < b) (sb : b < 2 ^ 127) (t : ℚ) (w : Scale) (i j v ni nj : ℕ)
    (ps new : List Part) (o u : Option ℤ) (n : ℤ) → AreScales a t b w → PartsMerged l r a b pa sa pb sb t w i j ps
    → IsLine (entries_of l a pa sa) → IsLine (entries_of r b pb sb) → IsLeastPart l i r j v
    → (i < length l → v ≤ part_variable l i) → (j < length r → v ≤ part_variable r j)
    → IsPartHead l i v o ni → IsPartHead r j v u nj → n ≡ w.left *ℤ number_or_zero o +ℤ w.right *ℤ number_or_zero u → IsPartPut ps v n new
    → PartsMerged l r a b pa sa pb sb t w ni nj new
parts_step l r a b pa sa pb sb t w i j v ni nj ps new o u n s m al ar least left right ho hu e put =
    merge_step (entries_of l a pa sa) (entries_of r b pb sb) t i j v ni nj (entries_of ps w.denominator w.positive w.small) (entries_of new w.denominator w.positive w.small)
    (fraction_of o a pa sa) (fraction_of u b pb sb) (fraction n w.denominator w.positive w.small) m al ar (least_of l r a b pa sa pb sb i j v least)
    (λ h. subst (λ k. v ≤ k) (sym (variable-entries l i a pa sa)) (left (subst (λ k. i < k) (length-entries l a pa sa) h)))
    (λ h. subst (λ k. v ≤ k) (sym (variable-entries r j b pb sb)) (right (subst (λ k. j < k) (length-entries r b pb sb) h)))
    (part_head l i v ni o a pa sa ho) (part_head r j v nj u b pb sb hu)
    (fraction_value n w.denominator w.positive w.small ∙ scaled_sum w a b t n (number_or_zero o) (number_or_zero u) s e
    ∙ sym (ap₂ (λ x y. x +ℚ t *ℚ y) (fraction_of-value o a pa sa) (fraction_of-value u b pb sb)))
    (part_put ps new v n w.denominator w.positive w.small put)

pub parts_fall : (l r : List Part) (a b : ℕ) (pa : 0 < a) (sa : a < 2 ^ 127) (pb : 0 < b) (sb : b < 2 ^ 127) (t : ℚ) (w : Scale) (i j v ni nj : ℕ)
    (ps : List Part) (o u : Option ℤ) → PartsMerged l r a b pa sa pb sb t w i j ps → IsLeastPart l i r j v → IsPartHead l i v o ni → IsPartHead r j v u nj
    → (length l - ni) + (length r - nj) < (length l - i) + (length r - j)
parts_fall l r a b pa sa pb sb t w i j v ni nj ps o u m least ho hu =
    subst (λ x. (x - ni) + (length r - nj) < (x - i) + (length r - j)) (length-entries l a pa sa)
    (subst (λ y. (length (entries_of l a pa sa) - ni) + (y - nj) < (length (entries_of l a pa sa) - i) + (y - j)) (length-entries r b pb sb)
    (merge_falls (entries_of l a pa sa) (entries_of r b pb sb) t i j v ni nj (entries_of ps w.denominator w.positive w.small)
    (fraction_of o a pa sa) (fraction_of u b pb sb) m (least_of l r a b pa sa pb sb i j v least) (part_head l i v ni o a pa sa ho) (part_head r j v nj u b pb sb hu)))

-- ---- scales
pub first_scaled : (n : ℤ) (a own d : ℕ) → 0 < a → 0 < d → d ≡ a * own → ratio (pos own *ℤ n) d ≡ ratio n a
first_scaled n a own d p q e =
    ratio_from_cross (pos own *ℤ n) n d a q p
    (ring (nat own ⊗ at n ⊗ nat a) (at n ⊗ nat (a * own)) (omega arith) ∙ ap (λ k. n *ℤ pos k) (sym e))

-- p / q times n / b, where g divides p and b, and h divides a
pub second_scaled : (p' n : ℤ) (q a' b' g h own : ℕ) → 0 < q → 0 < b' * g → 0 < a' * h * own → own * h ≡ q * b'
    → ratio (p' *ℤ pos a' *ℤ n) (a' * h * own) ≡ ratio (p' *ℤ pos g) q *ℚ ratio n (b' * g)
second_scaled p' n q a' b' g h own k l m e =
    ratio_from_cross (p' *ℤ pos a' *ℤ n) (p' *ℤ pos g *ℤ n) (a' * h * own) (q * (b' * g)) m (mul-pos k l)
    (ring (at p' ⊗ nat a' ⊗ at n ⊗ nat (q * (b' * g))) (at p' ⊗ nat g ⊗ at n ⊗ nat (a' * (q * b'))) (omega arith)
    ∙ ap (λ x. p' *ℤ pos g *ℤ n *ℤ pos x) (ap (λ x. a' * x) (sym e) ∙ omega arith))
    ∙ sym (ratio-product (p' *ℤ pos g) n q (b' * g) k l)

pub scales_second : (t : ℚ) (p p' m : ℤ) (q b g a h own other d : ℕ) → t ≡ ratio p q → 0 < q → 0 < b → 0 < d → g ∣ b → p' *ℤ pos g ≡ p → other ≡ q * (b / g)
    → h ∣ a → h ∣ other → own ≡ other / h → d ≡ a * own → m ≡ p' *ℤ pos (a / h) → (n : ℤ) → ratio (m *ℤ n) d ≡ t *ℚ ratio n b
scales_second t p p' m q b g a h own other d is_t q_some b_some d_some gb is_p is_other ha ho is_own is_d is_m n =
    let b_is : b / g * g ≡ b = div-mul_cancel g gb in
    let a_is : a / h * h ≡ a = div-mul_cancel h ha in
    let e : own * h ≡ q * (b / g) = ap (λ x. x * h) is_own ∙ div-mul_cancel h ho ∙ is_other in
    let d_is : d ≡ a / h * h * own = is_d ∙ ap (λ x. x * own) (sym a_is) in
    ap₂ (λ z k. ratio (z *ℤ n) k) is_m d_is
    ∙ second_scaled p' n q (a / h) (b / g) g h own q_some (subst (λ k. 0 < k) (sym b_is) b_some) (subst (λ k. 0 < k) d_is d_some) e
    ∙ ap₂ (λ z k. ratio z q *ℚ ratio n k) is_p b_is ∙ ap (λ x. x *ℚ ratio n b) (sym is_t)

-- the common denominator is above 0
pub scale_some : (q b g a h own other d : ℕ) → 0 < q → 0 < b → 0 < a → g ∣ b → other ≡ q * (b / g) → h ∣ other → own ≡ other / h → d ≡ a * own → 0 < d
scale_some q b g a h own other d q_some b_some a_some gb is_other ho is_own is_d =
    let some_other : 0 < other = subst (λ k. 0 < k) (sym is_other) (mul-pos q_some (quotient_some b g b_some gb)) in
    subst (λ k. 0 < k) (sym is_d) (mul-pos a_some (subst (λ k. 0 < k) (sym is_own) (quotient_some other h some_other ho)))

-- ---- what all parts have in common
pub divides_each : (ps : List Part) → DividesParts 1 ps
divides_each [] = tt
divides_each (p ∷ ps) = (one-dvd (unsigned_abs p.numerator), divides_each ps)

pub parts_more : (k m : ℕ) (ps : List Part) → k ∣ m → DividesParts m ps → DividesParts k ps
parts_more k m [] d h = tt
parts_more k m (p ∷ ps) d h = (dvd_trans k d h.0, parts_more k m ps d h.1)

pub parts_push : (k : ℕ) (ps : List Part) (q : Part) → DividesParts k ps → k ∣ unsigned_abs q.numerator → DividesParts k (ps ++ q ∷ [])
parts_push k [] q h d = (d, tt)
parts_push k (p ∷ ps) q h d = (h.0, parts_push k ps q h.1 d)

pub part_divided : (k : ℕ) (ps : List Part) (i : ℕ) (d : Part) → DividesParts k ps → i < length ps → k ∣ unsigned_abs (get_or ps i d).numerator
part_divided k [] i d h l = absurd (omega arith)
part_divided k (p ∷ ps) zero d h l = h.0
part_divided k (p ∷ ps) (suc i) d h l = part_divided k ps i d h.1 (omega arith)

pub divides_by_rest : (k m n : ℕ) → k ∣ m → k ∣ n % m → k ∣ n
divides_by_rest k m n d r = subst (λ x. k ∣ x) (div-add-mod' n m) (dvd-add k (dvd-mul_left_of_dvd k d (n / m)) r)

-- ---- parts that are divided
pub divided_push : (by : ℕ) (olds news : List Part) (p q : Part) → AreDivided by olds news → q.variable ≡ p.variable → p.numerator ≡ q.numerator *ℤ pos by
    → AreDivided by (olds ++ p ∷ []) (news ++ q ∷ [])
divided_push by [] [] p q h e f = (e, f, tt)
divided_push by [] (n ∷ news) p q h e f = absurd h
divided_push by (o ∷ olds) [] p q h e f = absurd h
divided_push by (o ∷ olds) (n ∷ news) p q h e f = (h.0, h.1, divided_push by olds news p q h.2 e f)

pub divided_entries : (by d e : ℕ) (olds news : List Part) (pd : 0 < d) (sd : d < 2 ^ 127) (pe : 0 < e) (se : e < 2 ^ 127) → e * by ≡ d → AreDivided by olds news
    → entries_of news e pe se ≡ entries_of olds d pd sd
divided_entries by d e [] [] pd sd pe se c h = refl
divided_entries by d e [] (n ∷ news) pd sd pe se c h = absurd h
divided_entries by d e (o ∷ olds) [] pd sd pe se c h = absurd h
divided_entries by d e (o ∷ olds) (n ∷ news) pd sd pe se c h =
    ap₂ (λ (x : Entry) (es : List Entry). x ∷ es) (one h.0 h.1) (divided_entries by d e olds news pd sd pe se c h.2)
  where
    crossed : o.numerator ≡ n.numerator *ℤ pos by → n.numerator *ℤ pos d ≡ o.numerator *ℤ pos e
    crossed f =
        subst (λ x. n.numerator *ℤ pos x ≡ o.numerator *ℤ pos e) c
        (subst (λ z. n.numerator *ℤ pos (e * by) ≡ z *ℤ pos e) (sym f) (ring (at n.numerator ⊗ nat (e * by)) (at n.numerator ⊗ nat by ⊗ nat e) (omega arith)))

    one : n.variable ≡ o.variable → o.numerator ≡ n.numerator *ℤ pos by → entry_of n e pe se ≡ entry_of o d pd sd
    one v f =
        let same : fraction n.numerator e pe se ≡ fraction o.numerator d pd sd =
        is_fraction (fraction n.numerator e pe se) o.numerator d pd sd
        (fraction_value n.numerator e pe se ∙ ratio_from_cross n.numerator o.numerator e d pe pd (crossed f)) in
        λ i. record { variable = v i; factor = same i }

-- ---- fractions over a common denominator
pub divide_more : (es : List Entry) (d m : ℕ) → d ∣ m → AllDivide es d → AllDivide es m
divide_more [] d m h a = tt
divide_more (e ∷ es) d m h a = (dvd_trans (denom_of e.factor) a.0 h, divide_more es d m h a.1)

pub divide_push : (es : List Entry) (e : Entry) (d : ℕ) → AllDivide es d → denom_of e.factor ∣ d → AllDivide (es ++ e ∷ []) d
divide_push [] e d a h = (h, tt)
divide_push (x ∷ es) e d a h = (a.0, divide_push es e d a.1 h)

pub divide_at : (es : List Entry) (i : ℕ) (e : Entry) (d : ℕ) → AllDivide es d → slice_get es i ≡ Some e → denom_of e.factor ∣ d
divide_at [] i e d a h = absurd (cc)
divide_at (x ∷ es) zero e d a h = let q : x ≡ e = cc in subst (λ (y : Entry). denom_of y.factor ∣ d) q a.0
divide_at (x ∷ es) (suc i) e d a h = divide_at es i e d a.1 h

-- a times what b has beyond the divisor is a multiple of both
pub both_divide : (a b g new : ℕ) → IsGcd a b g → new ≡ a * (b / g) → (a ∣ new) × (b ∣ new)
both_divide a b g new gcd e =
    let a_is : a / g * g ≡ a = div-mul_cancel g gcd.0 in
    let b_is : b / g * g ≡ b = div-mul_cancel g gcd.1 in
    let other : new ≡ a / g * b = e ∙ ap (λ x. x * (b / g)) (sym a_is) ∙ moved (a / g) g (b / g) ∙ ap (λ x. a / g * x) b_is in
    (subst (λ x. a ∣ x) (sym e) (dvd-mul_right a (b / g)), subst (λ x. b ∣ x) (sym other) (dvd-mul_left b (a / g)))
  where
    moved : (x y z : ℕ) → x * y * z ≡ x * (z * y)
    moved x y z = omega arith

pub over_is : (f : Frac) (n : ℤ) (d : ℕ) → denom_of f ∣ d → 0 < d → n ≡ numer_of f *ℤ pos (d / denom_of f) → value_of f ≡ ratio n d
over_is f n d h p e =
    ratio_from_cross (numer_of f) n (denom_of f) d f.positive p
    (ap (λ k. numer_of f *ℤ pos k) (sym (div-mul_cancel (denom_of f) h))
    ∙ ring (at (numer_of f) ⊗ nat (d / denom_of f * denom_of f)) (at (numer_of f) ⊗ nat (d / denom_of f) ⊗ nat (denom_of f)) (omega arith)
    ∙ ap (λ z. z *ℤ pos (denom_of f)) (sym e))

pub gathered_push : (ps : List Part) (es : List Entry) (e : Entry) (n : ℤ) (d : ℕ) (p : 0 < d) (s : d < 2 ^ 127) → entries_of ps d p s ≡ es → value_of e.factor ≡ ratio n d
    → entries_of (ps ++ (record { variable = e.variable; numerator = n }) ∷ []) d p s ≡ es ++ e ∷ []
gathered_push ps es e n d p s h v =
    push-entries ps (record { variable = e.variable; numerator = n }) d p s
    ∙ ap₂ (λ (xs : List Entry) (f : Frac). xs ++ (record { variable = e.variable; factor = f }) ∷ []) h (sym (is_fraction e.factor n d p s v))
