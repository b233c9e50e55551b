-- Rows that are multiples of one another have one normal form.
use Rattle.std.proofs.Common.{◌≡◌, ◌≢◌, ℕ, zero, suc, pos, ◌<◌, ◌*◌, ◌/◌, arith, refl, sym, ap, ap₂, subst, ◌∙◌, Bool, true, false, [], ◌∷◌, unsigned_abs}
use Rattle.std.proofs.Math.IntN.{ℤ, negsuc, ◌*ℤ◌, neg_ℤ}
use Rattle.std.proofs.Math.Nat.{div-mul_cancel, dvd-mul_right, eq_of_mul-eq-mul_left, mul-pos, pos_of_dvd_of_pos}
use Rattle.std.specs.Int.{◌∣◌}
use Rattle.std.specs.Int.Signed.{◌<ℤ◌}
use Rattle.std.proofs.lemmas.Int.{ints, unsigned_abs-mul}
use borrow.Author.Differences.{same_in, product_is, neg_is}
use Rattle.lq_base_numbers.specs.Rationals.Coprime.{Coprime, Coprime_swap, Coprime-from_gcd, euclid}
use Rattle.lq_base_numbers.specs.Rationals.Lcm.{gcd_exists}
use Rattle.lq_base_numbers.specs.Rationals.IntOrder.{mul_cancel}
use Rattle.lq_base_numbers.specs.Rationals.IntRing.{at, nat, ◌⊗◌, ring, ring_out}
use Rattle.lq_logic_rows.specs.Forms.{Parts, DividesAll, FirstAbove, IsNormal, times, IsMultiple, Scales, AreMultiples}
use Rattle.lq_prover_simplex.specs.RowParts.{turned_by, IsTurned, IsDivided}

-- ---- whole numbers
cancel : (x y c : ℤ) → c ≢ pos 0 → x *ℤ c ≡ y *ℤ c → x ≡ y
cancel x y (pos zero) n e = absurd (n refl)
cancel x y (pos (suc k)) n e = mul_cancel x y (pos (suc k)) (omega (arith, ints)) e
cancel x y (negsuc k) n e =
    mul_cancel x y (pos (suc k)) (omega (arith, ints))
    (ring (at x ⊗ nat (suc k)) (at y ⊗ nat (suc k)) (omega (arith, ring_out (at x ⊗ at (negsuc k)) (at y ⊗ at (negsuc k)) e)))

abs_apart : (n : ℤ) → n ≢ pos 0 → 0 < unsigned_abs n
abs_apart (pos zero) h = absurd (h refl)
abs_apart (pos (suc n)) h = omega arith
abs_apart (negsuc n) h = omega arith

apart_abs : (n : ℤ) → 0 < unsigned_abs n → n ≢ pos 0
apart_abs n h e = let z : unsigned_abs n ≡ 0 = ap unsigned_abs e in omega arith

product_apart : (a b : ℤ) → a ≢ pos 0 → b ≢ pos 0 → a *ℤ b ≢ pos 0
product_apart a b n m =
    apart_abs (a *ℤ b) (subst (λ k. 0 < k) (sym (unsigned_abs-mul a b)) (mul-pos (abs_apart a n) (abs_apart b m)))

same_above : (x y : ℤ) → pos 0 <ℤ x → pos 0 <ℤ y → unsigned_abs x ≡ unsigned_abs y → x ≡ y
same_above (pos m) (pos n) h k e = ap pos e
same_above (pos m) (negsuc n) h k e = absurd (let z : ⊥ = omega (arith, ints) in z)
same_above (negsuc m) y h k e = absurd (let z : ⊥ = omega (arith, ints) in z)

above_apart : (n : ℤ) → pos 0 <ℤ n → n ≢ pos 0
above_apart n h e = let k : pos 0 <ℤ pos 0 = subst (λ z. pos 0 <ℤ z) e h in omega (arith, ints)

-- ---- factors of both sides
scaled_sizes : (a b p q : ℤ) → a *ℤ p ≡ b *ℤ q → unsigned_abs a * unsigned_abs p ≡ unsigned_abs b * unsigned_abs q
scaled_sizes a b p q e = sym (unsigned_abs-mul a p) ∙ ap unsigned_abs e ∙ unsigned_abs-mul b q

divides_one : (x y d m n : ℕ) → 0 < d → Coprime x y → x * d * m ≡ y * d * n → x ∣ n
divides_one x y d m n some apart e =
    let f : x * m ≡ y * n = eq_of_mul-eq-mul_left d some (x * m) (y * n) (omega (arith, e)) in
    euclid x y n apart (subst (λ k. x ∣ k) f (dvd-mul_right x m))

divides_other : (x y d : ℕ) (a b : ℤ) (f g : Parts) → 0 < d → Coprime x y → x * d ≡ unsigned_abs a → y * d ≡ unsigned_abs b → Scales a b f g → DividesAll x g
divides_other x y d a b [] [] some apart u v s = tt
divides_other x y d a b [] (q ∷ g) some apart u v s = absurd s
divides_other x y d a b (p ∷ f) [] some apart u v s = absurd s
divides_other x y d a b (p ∷ f) (q ∷ g) some apart u v s = (
  divides_one x y d (unsigned_abs p.1) (unsigned_abs q.1) some apart
      (ap (λ k. k * unsigned_abs p.1) u ∙ scaled_sizes a b p.1 q.1 s.1 ∙ sym (ap (λ k. k * unsigned_abs q.1) v)),
  divides_other x y d a b f g some apart u v s.2,
)

scales_back : (a b : ℤ) (f g : Parts) → Scales a b f g → Scales b a g f
scales_back a b [] [] s = tt
scales_back a b [] (q ∷ g) s = absurd s
scales_back a b (p ∷ f) [] s = absurd s
scales_back a b (p ∷ f) (q ∷ g) s = (sym s.0, sym s.1, scales_back a b f g s.2)

scales_on : (a b c d : ℤ) (f g h : Parts) → Scales a b f g → Scales c d g h → Scales (a *ℤ c) (b *ℤ d) f h
scales_on a b c d [] [] [] s t = tt
scales_on a b c d [] [] (r ∷ h) s t = absurd t
scales_on a b c d [] (q ∷ g) h s t = absurd s
scales_on a b c d (p ∷ f) [] h s t = absurd s
scales_on a b c d (p ∷ f) (q ∷ g) [] s t = absurd t
scales_on a b c d (p ∷ f) (q ∷ g) (r ∷ h) s t = (
  s.0 ∙ t.0,
  ring (at a ⊗ at c ⊗ at p.1) (at a ⊗ at p.1 ⊗ at c) (omega arith) ∙ ap (λ z. z *ℤ c) s.1
      ∙ ring (at b ⊗ at q.1 ⊗ at c) (at c ⊗ at q.1 ⊗ at b) (omega arith) ∙ ap (λ z. z *ℤ b) t.1
      ∙ ring (at d ⊗ at r.1 ⊗ at b) (at b ⊗ at d ⊗ at r.1) (omega arith),
  scales_on a b c d f g h s.2 t.2,
)

-- ---- equal factors, equal forms
same_scaled : (a : ℤ) (f g : Parts) → a ≢ pos 0 → Scales a a f g → f ≡ g
same_scaled a [] [] n s = refl
same_scaled a [] (q ∷ g) n s = absurd s
same_scaled a (p ∷ f) [] n s = absurd s
same_scaled a (p ∷ f) (q ∷ g) n s =
    let one : p.1 ≡ q.1 = cancel p.1 q.1 a n (ring (at p.1 ⊗ at a) (at a ⊗ at p.1) (omega arith) ∙ s.1 ∙ ring (at a ⊗ at q.1) (at q.1 ⊗ at a) (omega arith)) in
    ap₂ (λ (u : ℕ × ℤ) (us : Parts). u ∷ us) (ap₂ (λ (t : ℕ) (z : ℤ). (t, z)) s.0 one) (same_scaled a f g n s.2)

same_factors : (a b : ℤ) (f g : Parts) → unsigned_abs a ≡ unsigned_abs b → a ≢ pos 0 → FirstAbove false f → FirstAbove false g → Scales a b f g → a ≡ b
same_factors a b [] g e n h k s = absurd h
same_factors a b (p ∷ f) [] e n h k s = absurd k
same_factors a b (p ∷ f) (q ∷ g) e n h k s =
    let sizes : unsigned_abs a * unsigned_abs p.1 ≡ unsigned_abs a * unsigned_abs q.1 = scaled_sizes a b p.1 q.1 s.1 ∙ ap (λ m. m * unsigned_abs q.1) (sym e) in
    let one : p.1 ≡ q.1 = same_above p.1 q.1 h k (eq_of_mul-eq-mul_left (unsigned_abs a) (abs_apart a n) (unsigned_abs p.1) (unsigned_abs q.1) sizes) in
    cancel a b q.1 (above_apart q.1 k) (subst (λ z. a *ℤ z ≡ b *ℤ q.1) one s.1)

same_normal : (a b : ℤ) (f g : Parts) → a ≢ pos 0 → b ≢ pos 0 → IsNormal f → IsNormal g → Scales a b f g → f ≡ g
same_normal a b f g n m nf ng s =
    let d = gcd_exists (unsigned_abs a) (unsigned_abs b) in
    let some : 0 < d.0 = pos_of_dvd_of_pos d.1.1 (abs_apart b m) in
    let u : unsigned_abs a / d.0 * d.0 ≡ unsigned_abs a = div-mul_cancel d.0 d.1.0 in
    let v : unsigned_abs b / d.0 * d.0 ≡ unsigned_abs b = div-mul_cancel d.0 d.1.1 in
    let apart : Coprime (unsigned_abs a / d.0) (unsigned_abs b / d.0) = Coprime-from_gcd (unsigned_abs a) (unsigned_abs b) d.0 (abs_apart b m) d.1 in
    let x : unsigned_abs a / d.0 ≡ 1 = ng.lowest _ (divides_other (unsigned_abs a / d.0) (unsigned_abs b / d.0) d.0 a b f g some apart u v s) in
    let y : unsigned_abs b / d.0 ≡ 1 =
    nf.lowest _ (divides_other (unsigned_abs b / d.0) (unsigned_abs a / d.0) d.0 b a g f some (Coprime_swap _ _ apart) v u (scales_back a b f g s)) in
    let sizes : unsigned_abs a ≡ unsigned_abs b = sym u ∙ ap (λ k. k * d.0) (x ∙ sym y) ∙ v in
    let e : a ≡ b = same_factors a b f g sizes n nf.above ng.above s in
    same_scaled a f g n (subst (λ z. Scales a z f g) (sym e) s)

pub multiples_once : (p q f g : Parts) → IsNormal f → IsNormal g → AreMultiples p f → AreMultiples q g → AreMultiples p q → f ≡ g
multiples_once p q f g nf ng r s m =
    same_normal (r.right *ℤ m.left *ℤ s.left) (r.left *ℤ m.right *ℤ s.right) f g
    (product_apart (r.right *ℤ m.left) s.left (product_apart r.right m.left r.right_apart m.left_apart) s.left_apart)
    (product_apart (r.left *ℤ m.right) s.right (product_apart r.left m.right r.left_apart m.right_apart) s.right_apart)
    nf ng
    (scales_on (r.right *ℤ m.left) (r.left *ℤ m.right) s.left s.right f q g
    (scales_on r.right r.left m.left m.right f p q (scales_back r.left r.right p f r.same) m.same) s.same)

-- ---- the form of a row
abbrev sign_of : Bool → ℤ
sign_of true = negsuc 0
sign_of false = pos 1

sign_apart : (t : Bool) → sign_of t ≢ pos 0
sign_apart true e = absurd (let z : ⊥ = cc in z)
sign_apart false e = absurd (let z : ⊥ = cc in z)

sign_times : (t : Bool) (n : ℤ) → sign_of t *ℤ n ≡ turned_by t n
sign_times true n = same_in (negsuc 0 *ℤ n) (neg_ℤ n) (omega (arith, product_is (negsuc 0) n, neg_is n))
sign_times false n = ring (nat 1 ⊗ at n) (at n) (omega arith)

form_scales : (t : Bool) (d : ℤ) (parts made form : Parts) → IsTurned t parts made → IsDivided d made form → Scales (sign_of t) d parts form
form_scales t d [] [] [] a h = tt
form_scales t d [] [] (f ∷ form) a h = absurd h
form_scales t d [] (m ∷ made) form a h = absurd a
form_scales t d (p ∷ parts) [] form a h = absurd a
form_scales t d (p ∷ parts) (m ∷ made) [] a h = absurd h
form_scales t d (p ∷ parts) (m ∷ made) (f ∷ form) a h = (
  sym a.0 ∙ sym h.0,
  sign_times t p.1 ∙ sym a.1 ∙ h.1 ∙ ring (at f.1 ⊗ at d) (at d ⊗ at f.1) (omega arith),
  form_scales t d parts made form a.2 h.2,
)

some_apart : (d : ℕ) → 0 < d → pos d ≢ pos 0
some_apart d h = above_apart (pos d) (omega (arith, ints))

pub form_multiple : (t : Bool) (d : ℕ) (parts made form : Parts) → 0 < d → IsTurned t parts made → IsDivided (pos d) made form → AreMultiples parts form
form_multiple t d parts made form some a h = record {
  left = sign_of t;
  right = pos d;
  left_apart = sign_apart t;
  right_apart = some_apart d some;
  same = form_scales t (pos d) parts made form a h;
}

-- ---- multiples by one whole number
scaled_by : (a b k : ℤ) (parts form : Parts) → a ≢ pos 0 → b ≡ a *ℤ k → Scales a b parts form → parts ≡ times k form
scaled_by a b k [] [] n e s = refl
scaled_by a b k [] (q ∷ form) n e s = absurd s
scaled_by a b k (p ∷ parts) [] n e s = absurd s
scaled_by a b k (p ∷ parts) (q ∷ form) n e s =
    let one : p.1 ≡ k *ℤ q.1 =
    cancel p.1 (k *ℤ q.1) a n
    (ring (at p.1 ⊗ at a) (at a ⊗ at p.1) (omega arith) ∙ s.1 ∙ ap (λ z. z *ℤ q.1) e ∙ ring (at a ⊗ at k ⊗ at q.1) (at k ⊗ at q.1 ⊗ at a) (omega arith)) in
    ap₂ (λ (u : ℕ × ℤ) (us : Parts). u ∷ us) (ap₂ (λ (t : ℕ) (z : ℤ). (t, z)) s.0 one) (scaled_by a b k parts form n e s.2)

-- where the size of one number divides that of another, so does the number
quotient_of : (a b : ℤ) (m : ℕ) → a ≢ pos 0 → b ≢ pos 0 → m * unsigned_abs a ≡ unsigned_abs b → (k : ℤ) × (b ≡ a *ℤ k)
quotient_of a b zero some apart e = absurd (let h = abs_apart b apart in omega arith)
quotient_of (pos zero) b (suc m) some apart e = absurd (some refl)
quotient_of (pos (suc a)) (pos b) (suc m) some apart e = (pos (suc m), ring (nat b) (nat (suc a) ⊗ nat (suc m)) (omega (arith, e)))
quotient_of (pos (suc a)) (negsuc b) (suc m) some apart e = (negsuc m, ring (at (negsuc b)) (nat (suc a) ⊗ at (negsuc m)) (omega (arith, e)))
quotient_of (negsuc a) (pos b) (suc m) some apart e = (negsuc m, ring (nat b) (at (negsuc a) ⊗ at (negsuc m)) (omega (arith, e)))
quotient_of (negsuc a) (negsuc b) (suc m) some apart e = (pos (suc m), ring (at (negsuc b)) (at (negsuc a) ⊗ nat (suc m)) (omega (arith, e)))

factor_apart : (a b k : ℤ) → b ≢ pos 0 → b ≡ a *ℤ k → k ≢ pos 0
factor_apart a b k n e z = n (e ∙ ap (λ t. a *ℤ t) z ∙ ring (at a ⊗ nat 0) (nat 0) (omega arith))

-- what is a multiple of a form in lowest terms is so by a whole number
pub whole_multiple : (parts form : Parts) → IsNormal form → AreMultiples parts form → IsMultiple form parts
whole_multiple parts form normal m =
    let a = m.left in let b = m.right in
    let d = gcd_exists (unsigned_abs a) (unsigned_abs b) in
    let some : 0 < d.0 = pos_of_dvd_of_pos d.1.1 (abs_apart b m.right_apart) in
    let u : unsigned_abs a / d.0 * d.0 ≡ unsigned_abs a = div-mul_cancel d.0 d.1.0 in
    let v : unsigned_abs b / d.0 * d.0 ≡ unsigned_abs b = div-mul_cancel d.0 d.1.1 in
    let apart : Coprime (unsigned_abs a / d.0) (unsigned_abs b / d.0) = Coprime-from_gcd (unsigned_abs a) (unsigned_abs b) d.0 (abs_apart b m.right_apart) d.1 in
    let x : unsigned_abs a / d.0 ≡ 1 = normal.lowest _ (divides_other (unsigned_abs a / d.0) (unsigned_abs b / d.0) d.0 a b parts form some apart u v m.same) in
    let whole : d.0 ≡ unsigned_abs a = (let e : 1 * d.0 ≡ unsigned_abs a = subst (λ k. k * d.0 ≡ unsigned_abs a) x u in omega arith) in
    let q = quotient_of a b (unsigned_abs b / d.0) m.left_apart m.right_apart (ap (λ k. unsigned_abs b / d.0 * k) (sym whole) ∙ v) in
    record { factor = q.0; some = factor_apart a b q.0 m.right_apart q.1; is = scaled_by a b q.0 parts form m.left_apart q.1 m.same }

times_scales : (k : ℤ) (form : Parts) → Scales (pos 1) k (times k form) form
times_scales k [] = tt
times_scales k (q ∷ form) = (refl, ring (nat 1 ⊗ (at k ⊗ at q.1)) (at k ⊗ at q.1) (omega arith), times_scales k form)

one_apart_zero : pos 1 ≢ pos 0
one_apart_zero e = absurd (let k : ⊥ = cc in k)

pub multiple_both : (parts form : Parts) → IsMultiple form parts → AreMultiples parts form
multiple_both parts form m = record {
  left = pos 1;
  right = m.factor;
  left_apart = one_apart_zero;
  right_apart = m.some;
  same = subst (λ p. Scales (pos 1) m.factor p form) (sym m.is) (times_scales m.factor form);
}

turned_back : (t : Bool) (n : ℤ) → turned_by t (turned_by t n) ≡ n
turned_back true n = omega (arith, ints)
turned_back false n = refl

pub form_times : (t : Bool) (d : ℕ) (parts made form : Parts) → IsTurned t parts made → IsDivided (pos d) made form → parts ≡ times (turned_by t (pos d)) form
form_times t d parts made form a h =
    scaled_by (sign_of t) (pos d) (turned_by t (pos d)) parts form (sign_apart t) (sym (turned_back t (pos d)) ∙ sym (sign_times t (turned_by t (pos d)))) (form_scales t (pos d) parts made form a h)

pub times_once : (k m : ℤ) (form : Parts) → FirstAbove false form → times k form ≡ times m form → k ≡ m
times_once k m [] h e = absurd h
times_once k m (q ∷ form) h e =
    let first : k *ℤ q.1 ≡ m *ℤ q.1 = first_same (q.0, k *ℤ q.1) (q.0, m *ℤ q.1) (times k form) (times m form) e in
    cancel k m q.1 (above_apart q.1 h) first
  where
    first_same : (x y : ℕ × ℤ) (xs ys : Parts) → x ∷ xs ≡ y ∷ ys → x.1 ≡ y.1
    first_same x y xs ys e = let same : x ≡ y = cc in ap (λ (p : ℕ × ℤ). p.1) same

pub times_none : (k : ℤ) (form : Parts) → FirstAbove false form → times k form ≢ []
times_none k [] h e = absurd h
times_none k (q ∷ form) h e = absurd (let z : ⊥ = cc in z)
