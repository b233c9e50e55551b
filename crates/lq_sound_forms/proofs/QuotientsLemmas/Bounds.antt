-- What bounds quotients and remainders.
use Rattle.std.proofs.Common.{◌≡◌, ℕ, zero, suc, ◌<◌, Bool, true, false, not, ◌&&◌, ◌||◌, refl, sym, ap, ◌∙◌, subst, arith as numbers, unsigned_abs, int_div, int_rem}
use Rattle.std.proofs.Math.IntN.{ℤ, pos, negsuc, ◌+ℤ◌, ◌*ℤ◌, *ℤ_comm}
use Rattle.std.proofs.Math.Nat.{mod-le}
use Rattle.std.specs.Prelude.{◌≤ℤ◌}
use Rattle.std.specs.Int.Signed.{lt_z, lt_z_yes, lt_z_no, ◌<ℤ◌}
use Rattle.std.specs.Ordering.{int_eq}
use Rattle.std.proofs.lemmas.Float.{T_from_true}
use Rattle.std.proofs.lemmas.Int.{quot-rem, rem_below, ints}

-- ---- tests

pub le_true : (x y : ℤ) → x ≤ℤ y → not (lt_z y x) ≡ true
le_true x y h = by (lt_z y x) refl
  where
    by : (b : Bool) → lt_z y x ≡ b → not b ≡ true
    by false e = refl
    by true e = let k = lt_z_yes {a = y} {b = x} (T_from_true (lt_z y x) e) in absurd (omega (numbers, ints, h, k))

pub lt_true : (x y : ℤ) → x <ℤ y → lt_z x y ≡ true
lt_true x y h = by (lt_z x y) refl
  where
    by : (b : Bool) → lt_z x y ≡ b → b ≡ true
    by true e = refl
    by false e = let k = lt_z_no {a = x} {b = y} (T_from_true (not (lt_z x y)) (ap not e)) in absurd (omega (numbers, ints, h, k))

pub below : (x y : ℤ) → lt_z x y ≡ true → x <ℤ y
below x y e = lt_z_yes {a = x} {b = y} (T_from_true (lt_z x y) e)

pub not_below : (x y : ℤ) → lt_z x y ≡ false → y ≤ℤ x
not_below x y e = lt_z_no {a = x} {b = y} (T_from_true (not (lt_z x y)) (ap not e))

and_true : (a b : Bool) → a ≡ true → b ≡ true → a && b ≡ true
and_true true b h k = k
and_true false b h k = h

or_first : (a b : Bool) → a ≡ true → a || b ≡ true
or_first true b h = refl
or_first false b h = absurd (cc)

or_second : (a b : Bool) → b ≡ true → a || b ≡ true
or_second true b h = refl
or_second false b h = h

-- ---- the remainder's size and sign

rest_up : (m n : ℤ) → pos 0 ≤ℤ m → pos 0 ≤ℤ int_rem m n
rest_up (pos a) n h = omega (numbers, ints)
rest_up (negsuc a) n h = absurd (h.le)

rest_down : (m n : ℤ) → m ≤ℤ pos 0 → int_rem m n ≤ℤ pos 0
rest_down (pos a) n h = let k = mod-le a (unsigned_abs n) in omega (numbers, ints, k, h)
rest_down (negsuc a) n h = omega (numbers, ints)

size_up : (r : ℤ) (k : ℕ) → unsigned_abs r < k → r <ℤ pos k
size_up (pos a) k h = omega (numbers, ints, h)
size_up (negsuc a) k h = omega (numbers, ints, h)

size_down : (r : ℤ) (c : ℕ) → unsigned_abs r < suc c → (pos 0) ≤ℤ (r +ℤ pos c)
size_down (pos a) c h = omega (numbers, ints, h)
size_down (negsuc a) c h = omega (numbers, ints, h)

-- a dividend that isn't below 0, and one that is
up_bounds : (m p r : ℤ) (c : ℕ) → p +ℤ r ≡ m → pos 0 ≤ℤ r → r <ℤ pos (suc c) → (p ≤ℤ m) × (m ≤ℤ (p +ℤ pos c))
up_bounds m p r c e h k = (omega (numbers, ints, e, h, k), omega (numbers, ints, e, h, k))

down_bounds : (m p r : ℤ) (c : ℕ) → p +ℤ r ≡ m → r ≤ℤ pos 0 → pos 0 ≤ℤ (r +ℤ pos c) → (m ≤ℤ p) × (p ≤ℤ (m +ℤ pos c))
down_bounds m p r c e h k = (omega (numbers, ints, e, h, k), omega (numbers, ints, e, h, k))

-- the predicate that the rules state of a quotient q of m by c + 1
pub quotient_bound : (m : ℤ) (c : ℕ) (p q : ℤ) → p ≡ pos (suc c) *ℤ q → q ≡ int_div m (pos (suc c)) → ((not (lt_z m (pos 0)) && not (lt_z m p)) && not (lt_z (p +ℤ pos c) m)) || ((lt_z m (pos 0) && not (lt_z p m)) && not (lt_z (m +ℤ pos c) p)) ≡ true
quotient_bound m c p q e is = by (lt_z m (pos 0)) refl
  where
    whole : p +ℤ int_rem m (pos (suc c)) ≡ m
    whole = ap (λ z. z +ℤ int_rem m (pos (suc c))) (e ∙ *ℤ_comm (pos (suc c)) q ∙ ap (λ z. z *ℤ pos (suc c)) is) ∙ quot-rem m (pos (suc c))

    small : unsigned_abs (int_rem m (pos (suc c))) < suc c
    small = rem_below m (pos (suc c)) (omega numbers)

    by : (b : Bool) → lt_z m (pos 0) ≡ b → ((not b && not (lt_z m p)) && not (lt_z (p +ℤ pos c) m)) || ((b && not (lt_z p m)) && not (lt_z (m +ℤ pos c) p)) ≡ true
    by false s =
        let r = up_bounds m p (int_rem m (pos (suc c))) c whole (rest_up m (pos (suc c)) (not_below m (pos 0) s)) (size_up (int_rem m (pos (suc c))) (suc c) small) in
        or_first (not (lt_z m p) && not (lt_z (p +ℤ pos c) m)) false (and_true (not (lt_z m p)) (not (lt_z (p +ℤ pos c) m)) (le_true p m r.0) (le_true m (p +ℤ pos c) r.1))
    by true s =
        let low = below m (pos 0) s in
        let r = down_bounds m p (int_rem m (pos (suc c))) c whole (rest_down m (pos (suc c)) (omega (numbers, ints, low))) (size_down (int_rem m (pos (suc c))) c small) in
        and_true (not (lt_z p m)) (not (lt_z (m +ℤ pos c) p)) (le_true m p r.0) (le_true p (m +ℤ pos c) r.1)

size_of : (n : ℤ) → pos 1 ≤ℤ n → (r : ℤ) → unsigned_abs r < unsigned_abs n → r <ℤ n
size_of (pos k) h r s = size_up r k s
size_of (negsuc k) h r s = absurd (h.le)

size_above : (n : ℤ) → int_eq n (pos 0) ≡ false → 0 < unsigned_abs n
size_above (pos zero) h = absurd (cc)
size_above (pos (suc k)) h = omega numbers
size_above (negsuc k) h = omega numbers

-- and of a remainder r of m by n
pub remainder_bound : (m n r : ℤ) → int_eq n (pos 0) ≡ false → r ≡ int_rem m n → (lt_z m (pos 0) || lt_z n (pos 1)) || (not (lt_z r (pos 0)) && lt_z r n) ≡ true
remainder_bound m n r z is = by (lt_z m (pos 0)) (lt_z n (pos 1)) refl refl
  where
    by : (a b : Bool) → lt_z m (pos 0) ≡ a → lt_z n (pos 1) ≡ b → (a || b) || (not (lt_z r (pos 0)) && lt_z r n) ≡ true
    by true b s t = refl
    by false true s t = refl
    by false false s t =
        let up = rest_up m n (not_below m (pos 0) s) in
        let small = size_of n (not_below n (pos 1) t) (int_rem m n) (rem_below m n (size_above n z)) in
        and_true (not (lt_z r (pos 0))) (lt_z r n) (le_true (pos 0) r (subst (λ x. pos 0 ≤ℤ x) (sym is) up)) (lt_true r n (subst (λ x. x <ℤ n) (sym is) small))
