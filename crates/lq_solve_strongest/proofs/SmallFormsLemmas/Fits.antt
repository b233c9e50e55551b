-- Comparisons of small sums can be gathered.
use Rattle.std.proofs.Common.{◌≡◌, ◌⊎◌, inl, inr, ℕ, ◌+◌, ◌*◌, ◌^◌, ◌≤◌, Bool, true, false, Option, Some, None, arith, sym, subst, unsigned_abs, FitsSigned, if◌then◌else◌}
use Rattle.std.proofs.Math.IntN.{ℤ, pos, ◌+ℤ◌, ◌-ℤ◌, ◌*ℤ◌}
use Rattle.std.proofs.Math.Nat.{mul-le-mul_left}
use Rattle.std.proofs.lemmas.Int.{fits_signed_from_abs, unsigned_abs-mul}
use Rattle.std.specs.Int.{w128}
use Rattle.lq_base_numbers.proofs.FractionsLemmas.Shared.{difference_sizes, sum_sizes}
use Rattle.lq_logic_predicates.specs.Comparison.{CanGather, comparison}
use Rattle.lq_logic_predicates.specs.LinearForm.{HasFit, IsFit, OnFactors, coefficient, constant_of, one_at, scaled}
use Rattle.lq_logic_predicates.specs.Sum.{Sum, whole, var, neg, add, sub, mul, div, rem, len, measure, same}
use Rattle.lq_logic_predicates.specs.Table.{literal_of}
use Rattle.lq_solve_strongest.specs.SmallForms.Narrow.{IsSmall, product_size, sum_size}

sum_at_most : (x y : ℤ) (m n : ℕ) → unsigned_abs x ≤ m → unsigned_abs y ≤ n → unsigned_abs (x +ℤ y) ≤ m + n
sum_at_most x y m n h k = by (sum_sizes x y)
  where
    by : (unsigned_abs (x +ℤ y) ≡ unsigned_abs x + unsigned_abs y) ⊎ ((unsigned_abs (x +ℤ y) + unsigned_abs y ≡ unsigned_abs x) ⊎ (unsigned_abs x + unsigned_abs (x +ℤ y) ≡ unsigned_abs y)) → unsigned_abs (x +ℤ y) ≤ m + n
    by (inl e) = omega (arith, e, h, k)
    by (inr (inl e)) = omega (arith, e, h, k)
    by (inr (inr e)) = omega (arith, e, h, k)

difference_at_most : (x y : ℤ) (m n : ℕ) → unsigned_abs x ≤ m → unsigned_abs y ≤ n → unsigned_abs (x -ℤ y) ≤ m + n
difference_at_most x y m n h k = by (difference_sizes x y)
  where
    by : (unsigned_abs (x -ℤ y) ≡ unsigned_abs x + unsigned_abs y) ⊎ ((unsigned_abs (x -ℤ y) + unsigned_abs y ≡ unsigned_abs x) ⊎ (unsigned_abs x + unsigned_abs (x -ℤ y) ≡ unsigned_abs y)) → unsigned_abs (x -ℤ y) ≤ m + n
    by (inl e) = omega (arith, e, h, k)
    by (inr (inl e)) = omega (arith, e, h, k)
    by (inr (inr e)) = omega (arith, e, h, k)

product_at_most : (x y : ℤ) (n : ℕ) → unsigned_abs y ≤ n → unsigned_abs (x *ℤ y) ≤ unsigned_abs x * n
product_at_most x y n h = subst (λ m. m ≤ unsigned_abs x * n) (sym (unsigned_abs-mul x y)) (mul-le-mul_left (unsigned_abs x) h)

-- ---- sizes of forms

one_at_most : (s t : Sum) → unsigned_abs (one_at s t) ≤ 1
one_at_most s t = by (same s t)
  where
    by : (b : Bool) → unsigned_abs (if b then pos 1 else pos 0) ≤ 1
    by true = omega arith
    by false = omega arith

-- what a product has of its factors
scaled_at_most : (o q : Option ℤ) (x y z : ℤ) (m n : ℕ) → unsigned_abs x ≤ m → unsigned_abs y ≤ n → unsigned_abs z ≤ 1 → unsigned_abs (scaled o q x y z) ≤ product_size o q m n
scaled_at_most (Some c) q x y z m n h k l = let e = product_at_most c y n k in omega (arith, e)
scaled_at_most None (Some c) x y z m n h k l = let e = product_at_most c x m h in omega (arith, e)
scaled_at_most None None x y z m n h k l = l

negated_at_most : (y : ℤ) (n : ℕ) → unsigned_abs y ≤ n → unsigned_abs (pos 0 -ℤ y) ≤ n
negated_at_most y n h = let e = difference_at_most (pos 0) y 0 n (omega arith) h in omega (arith, e)

pub coefficient_at_most : (s t : Sum) → unsigned_abs (coefficient s t) ≤ sum_size s
coefficient_at_most (whole n) t = omega arith
coefficient_at_most (var x) t = one_at_most (var x) t
coefficient_at_most (neg a) t = negated_at_most (coefficient a t) (sum_size a) (coefficient_at_most a t)
coefficient_at_most (add a b) t = sum_at_most (coefficient a t) (coefficient b t) (sum_size a) (sum_size b) (coefficient_at_most a t) (coefficient_at_most b t)
coefficient_at_most (sub a b) t = difference_at_most (coefficient a t) (coefficient b t) (sum_size a) (sum_size b) (coefficient_at_most a t) (coefficient_at_most b t)
coefficient_at_most (mul a b) t =
    scaled_at_most (literal_of a) (literal_of b) (coefficient a t) (coefficient b t) (one_at (mul a b) t) (sum_size a) (sum_size b) (coefficient_at_most a t) (coefficient_at_most b t)
    (one_at_most (mul a b) t)
coefficient_at_most (div a b) t = one_at_most (div a b) t
coefficient_at_most (rem a b) t = one_at_most (rem a b) t
coefficient_at_most (len a) t = one_at_most (len a) t
coefficient_at_most (measure f a) t = one_at_most (measure f a) t

pub constant_at_most : (s : Sum) → unsigned_abs (constant_of s) ≤ sum_size s
constant_at_most (whole n) = omega arith
constant_at_most (var x) = omega arith
constant_at_most (neg a) = negated_at_most (constant_of a) (sum_size a) (constant_at_most a)
constant_at_most (add a b) = sum_at_most (constant_of a) (constant_of b) (sum_size a) (sum_size b) (constant_at_most a) (constant_at_most b)
constant_at_most (sub a b) = difference_at_most (constant_of a) (constant_of b) (sum_size a) (sum_size b) (constant_at_most a) (constant_at_most b)
constant_at_most (mul a b) =
    scaled_at_most (literal_of a) (literal_of b) (constant_of a) (constant_of b) (pos 0) (sum_size a) (sum_size b) (constant_at_most a) (constant_at_most b) (omega arith)
constant_at_most (div a b) = omega arith
constant_at_most (rem a b) = omega arith
constant_at_most (len a) = omega arith
constant_at_most (measure f a) = omega arith

-- ---- what fits

fits : (z : ℤ) (n : ℕ) → unsigned_abs z ≤ n → n ≤ 2 ^ 126 → FitsSigned w128 z
fits z n h k = fits_signed_from_abs w128 z (omega (arith, h, k))

has_fit : (s : Sum) → sum_size s ≤ 2 ^ 126 → HasFit s
has_fit s h = record {
  constant = fits (constant_of s) (sum_size s) (constant_at_most s) h;
  coefficients = λ t. fits (coefficient s t) (sum_size s) (coefficient_at_most s t) h;
}

pub is_fit : (s : Sum) → sum_size s ≤ 2 ^ 126 → IsFit s
is_fit (whole n) h = fits n (unsigned_abs n) (omega arith) h
is_fit (var x) h = tt
is_fit (neg a) h = (is_fit a h, has_fit (neg a) h)
is_fit (add a b) h = (is_fit a (omega (arith, h)), is_fit b (omega (arith, h)), has_fit (add a b) h)
is_fit (sub a b) h = (is_fit a (omega (arith, h)), is_fit b (omega (arith, h)), has_fit (sub a b) h)
is_fit (mul a b) h = by (literal_of a) (literal_of b) h (is_fit a) (is_fit b) (has_fit (mul a b) h)
  where
    by : (o q : Option ℤ) → product_size o q (sum_size a) (sum_size b) ≤ 2 ^ 126 → (sum_size a ≤ 2 ^ 126 → IsFit a) → (sum_size b ≤ 2 ^ 126 → IsFit b) → HasFit (mul a b)
        → OnFactors o q (IsFit a × IsFit b × HasFit (mul a b))
    by (Some n) q l f g e = (f (omega (arith, l)), g (omega (arith, l)), e)
    by None (Some n) l f g e = (f (omega (arith, l)), g (omega (arith, l)), e)
    by None None l f g e = tt
is_fit (div a b) h = tt
is_fit (rem a b) h = tt
is_fit (len a) h = tt
is_fit (measure f a) h = tt

-- what is said of two small sums
pub small_gather : (a b : Sum) (added : ℤ) (equal : Bool) → IsSmall a → IsSmall b → unsigned_abs added ≤ 1 → CanGather (comparison a b added equal)
small_gather a b added equal h k l = record {
  left = is_fit a (omega (arith, h));
  right = is_fit b (omega (arith, k));
  constant = fits (constant_of a -ℤ constant_of b +ℤ added) (sum_size a + sum_size b + 1)
      (sum_at_most (constant_of a -ℤ constant_of b) added (sum_size a + sum_size b) 1
      (difference_at_most (constant_of a) (constant_of b) (sum_size a) (sum_size b) (constant_at_most a) (constant_at_most b)) l)
      (omega (arith, h, k));
  coefficients = λ t. fits (coefficient a t -ℤ coefficient b t) (sum_size a + sum_size b)
      (difference_at_most (coefficient a t) (coefficient b t) (sum_size a) (sum_size b) (coefficient_at_most a t) (coefficient_at_most b t))
      (omega (arith, h, k));
}
