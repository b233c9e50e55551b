-- Operations on whole numbers past 128 bits.
use Rattle.std.proofs.Common.{◌≡◌, ℕ, ◌<◌, ◌≤◌, ◌^◌, sym, ap₂, subst, arith, FitsSigned, to_z, of_z, inl, inr, true, false, List, length, get_or, slice_get, IfSome}
use Rattle.std.proofs.lemmas.Option.{slice_get-get_or}
use Rattle.std.proofs.Math.IntN.{ℤ, pos, ◌+ℤ◌, ◌-ℤ◌, ◌*ℤ◌}
use Rattle.std.specs.Int.Signed.{◌≤ℤ◌, ◌<ℤ◌, lt_z}
use Rattle.std.specs.Int.{w128}
use Rattle.std.proofs.lemmas.Int.{ints}
use Rattle.std.proofs.lemmas.Bool.{cases_lt}
use Rattle.std.proofs.Math.Nat.{dvd-mul_left}
use Rattle.lq_base_numbers.specs.Rationals.NumberForms.{HasNoFormBy, HasNoFormBy-from}
use Rattle.lq_base_numbers.specs.Rationals.Lcm.{IsLcm}

one_one : IsLcm 1 1 1
one_one = (dvd-mul_left 1 1, dvd-mul_left 1 1, λ k p q. p)

times_one : (a : ℤ) → a *ℤ pos 1 ≡ a
times_one a = omega (arith, ints)

at_one : (op : ℤ → ℤ → ℤ) (a c : ℤ) → ¬ (FitsSigned w128 (op a c)) → HasNoFormBy op a c 1 1
at_one op a c past =
    HasNoFormBy-from op a c 1 1 1 one_one (λ f. past (subst (λ x. FitsSigned w128 x) (ap₂ op (times_one a) (times_one c)) f.total))

-- two fractions that are the whole numbers x and y, as the code reads them
pub whole_past : (op : ℤ → ℤ → ℤ) (x y a c : ℤ) (b d : ℕ) → a ≡ to_z w128 (of_z w128 x) → b ≡ 1 → c ≡ to_z w128 (of_z w128 y) → d ≡ 1
    → ¬ (FitsSigned w128 (op (to_z w128 (of_z w128 x)) (to_z w128 (of_z w128 y)))) → HasNoFormBy op a c b d
whole_past op x y a c b d ax b1 cy d1 past =
    subst (λ k. HasNoFormBy op a c k d) (sym b1) (subst (λ k. HasNoFormBy op a c 1 k) (sym d1)
    (at_one op a c (λ f. past (subst (λ z. FitsSigned w128 z) (ap₂ op ax cy) f))))

-- an element of a list
pub element : {A : Type 0} (xs : List A) (k : ℕ) (d : A) (P : A → Type 0) → k < length xs → IfSome (slice_get xs k) P → P (get_or xs k d)
element xs k d P h p = subst (λ o. IfSome o P) (slice_get-get_or xs k d h) p

-- a fall that has no form is one of at least 2 ^ 127
fits_fall : (next value : ℤ) (gap : ℕ) → next ≤ℤ value → value ≤ℤ (next +ℤ pos gap) → gap < 2 ^ 126 → FitsSigned w128 (next -ℤ value)
fits_fall next value gap h k l = omega (arith, ints)

pub large_fall : (next value : ℤ) (gap n : ℕ) → next ≤ℤ value → value ≤ℤ (next +ℤ pos gap) → ¬ (FitsSigned w128 (next -ℤ value)) → gap ≤ n → 2 ^ 126 ≤ n
large_fall next value gap n h k past g =
    elim (cases_lt n (2 ^ 126)) [
      | inl l ↦ absurd (past (fits_fall next value gap h k (omega arith)))
      | inr l ↦ l
    ]

fits_offer : (next cost value reached : ℤ) (gap n : ℕ) → next ≤ℤ value → value ≤ℤ (next +ℤ pos gap) → reached ≤ℤ (value +ℤ cost)
    → value ≤ℤ pos n → pos 0 ≤ℤ (reached +ℤ pos n) → cost ≤ℤ pos n → gap ≤ n → n < 2 ^ 126 → FitsSigned w128 (next +ℤ cost)
fits_offer next cost value reached gap n a b c d e f g h = omega (arith, ints)

pub large_offer : (next cost value reached : ℤ) (gap n : ℕ) → next ≤ℤ value → value ≤ℤ (next +ℤ pos gap) → reached ≤ℤ (value +ℤ cost)
    → value ≤ℤ pos n → pos 0 ≤ℤ (reached +ℤ pos n) → cost ≤ℤ pos n → gap ≤ n → ¬ (FitsSigned w128 (next +ℤ cost)) → 2 ^ 126 ≤ n
large_offer next cost value reached gap n a b c d e f g past =
    elim (cases_lt n (2 ^ 126)) [
      | inl l ↦ absurd (past (fits_offer next cost value reached gap n a b c d e f g l))
      | inr l ↦ l
    ]

-- the code's tests of two numbers that fit
pub less_read : (x y : ℤ) → FitsSigned w128 x → FitsSigned w128 y → lt_z (to_z w128 (of_z w128 x)) (to_z w128 (of_z w128 y)) ≡ true → x <ℤ y
less_read x y f g h = omega (arith, ints)

pub least_read : (x y : ℤ) → FitsSigned w128 x → FitsSigned w128 y → lt_z (to_z w128 (of_z w128 x)) (to_z w128 (of_z w128 y)) ≡ false → y ≤ℤ x
least_read x y f g h = omega (arith, ints)

pub sum_read : (x y : ℤ) → FitsSigned w128 x → FitsSigned w128 y → to_z w128 (of_z w128 x) +ℤ to_z w128 (of_z w128 y) ≡ x +ℤ y
sum_read x y f g = omega (arith, ints)

pub difference_read : (x y : ℤ) → FitsSigned w128 x → FitsSigned w128 y → to_z w128 (of_z w128 x) -ℤ to_z w128 (of_z w128 y) ≡ x -ℤ y
difference_read x y f g = omega (arith, ints)

pub under_step : (fall low : ℤ) (next value : ℤ) → fall ≡ next -ℤ value → low ≡ fall → (low +ℤ value) ≤ℤ next
under_step fall low next value e f = omega (arith, ints)

pub under_more : (low lower value next : ℤ) → lower ≤ℤ low → (low +ℤ value) ≤ℤ next → (lower +ℤ value) ≤ℤ next
under_more low lower value next h k = omega (arith, ints)

fits_apart : (x b : ℤ) (n : ℕ) → x ≤ℤ (b +ℤ pos n) → b ≤ℤ (x +ℤ pos n) → n < 2 ^ 126 → FitsSigned w128 (x -ℤ b)
fits_apart x b n h k l = omega (arith, ints)

pub large_apart : (x b : ℤ) (n : ℕ) → x ≤ℤ (b +ℤ pos n) → b ≤ℤ (x +ℤ pos n) → ¬ (FitsSigned w128 (x -ℤ b)) → 2 ^ 126 ≤ n
large_apart x b n h k past =
    elim (cases_lt n (2 ^ 126)) [
      | inl l ↦ absurd (past (fits_apart x b n h k l))
      | inr l ↦ l
    ]
