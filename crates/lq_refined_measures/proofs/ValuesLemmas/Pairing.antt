-- Two numbers as one, by diagonals: (0, 0), (1, 0), (0, 1), (2, 0), (1, 1), (0, 2), ..
use Rattle.std.proofs.Common.{◌≡◌, ◌∙◌, ℕ, zero, suc, ◌+◌, ℤ, pos, negsuc, arith, refl, ap}

-- the pair behind this one
abbrev next : ℕ × ℕ → ℕ × ℕ
next (zero, b) = (suc b, 0)
next (suc a, b) = (a, suc b)

abbrev pub pair_at : ℕ → ℕ × ℕ
pair_at zero = (0, 0)
pair_at (suc n) = next (pair_at n)

-- how many pairs stand before the one of n and 0
abbrev before : ℕ → ℕ
before zero = 0
before (suc n) = suc (before n + n)

abbrev pub place_of : ℕ → ℕ → ℕ
place_of a b = before (a + b) + b

-- along the diagonal of n, each pair by its second number
on_diagonal : (n b a : ℕ) → a + b ≡ n → pair_at (before n) ≡ (n, 0) → pair_at (before n + b) ≡ (a, b)
on_diagonal n zero a e h =
    let z : before n + 0 ≡ before n = omega arith in
    let w : n ≡ a = omega (arith, e) in
    ap pair_at z ∙ h ∙ ap (λ (k : ℕ). (k, 0)) w
on_diagonal n (suc b) a e h =
    let z : before n + suc b ≡ suc (before n + b) = omega arith in
    let w : suc a + b ≡ n = omega (arith, e) in
    ap pair_at z ∙ ap next (on_diagonal n b (suc a) w h)

-- each diagonal begins with its number and 0
begins : (n : ℕ) → pair_at (before n) ≡ (n, 0)
begins zero = refl
begins (suc n) = let z : 0 + n ≡ n = omega arith in ap next (on_diagonal n n 0 z (begins n))

pub pair_there : (a b : ℕ) → pair_at (place_of a b) ≡ (a, b)
pair_there a b = on_diagonal (a + b) b a refl (begins (a + b))

-- ---- whole numbers

abbrev pub number_for : ℤ → ℕ
number_for (pos n) = place_of 0 n
number_for (negsuc n) = place_of 1 n

abbrev whole_by : ℕ × ℕ → ℤ
whole_by (zero, n) = pos n
whole_by (suc k, n) = negsuc n

abbrev pub whole_at : ℕ → ℤ
whole_at n = whole_by (pair_at n)

pub whole_there : (z : ℤ) → whole_at (number_for z) ≡ z
whole_there (pos n) = ap whole_by (pair_there 0 n)
whole_there (negsuc n) = ap whole_by (pair_there 1 n)
