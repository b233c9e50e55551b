-- How many listed calls are among the first calls.
use Rattle.std.specs.Prelude.{◌==◌, nat_lt}
use Rattle.std.specs.List.{list_any}
use Rattle.std.proofs.Common.{◌≡◌, ℕ, ◌+◌, ◌<◌, ◌≤◌, Bool, true, false, ◌||◌, cond, List, [], ◌∷◌, refl, arith}
use Rattle.std.proofs.lemmas.Bool.Decides.{nat_tests}
use Rattle.std.proofs.lemmas.List.Sums.{sum_by-cons}
use Rattle.lq_base_io.specs.Causes.{listed_before}

-- one listed call
abbrev one_before : ℕ → ℕ → ℕ
one_before call n = cond (nat_lt n call) 1 0

one_more : (call n : ℕ) → one_before call n ≤ one_before (call + 1) n
one_more call n = grind (arith, nat_tests)

one_listed : (call n : ℕ) → (n == call) ≡ true → one_before call n < one_before (call + 1) n
one_listed call n is = grind (arith, nat_tests)

one_other : (call n : ℕ) → (n == call) ≡ false → one_before (call + 1) n ≡ one_before call n
one_other call n is = grind (arith, nat_tests)

at_head : (call n : ℕ) (listed : List ℕ) → listed_before call (n ∷ listed) ≡ one_before call n + listed_before call listed
at_head call n listed = sum_by-cons (one_before call) n listed

pub none_before : (listed : List ℕ) → listed_before 0 listed ≡ 0
none_before [] = refl
none_before (n ∷ listed) = let head : one_before 0 n ≡ 0 = grind (arith, nat_tests) in omega (arith, head, at_head 0 n listed, none_before listed)

more_before : (call : ℕ) (listed : List ℕ) → listed_before call listed ≤ listed_before (call + 1) listed
more_before call [] = omega arith
more_before call (n ∷ listed) = omega (arith, at_head call n listed, at_head (call + 1) n listed, one_more call n, more_before call listed)

or_false : (a b : Bool) → (a || b) ≡ false → (a ≡ false) × (b ≡ false)
or_false true b is = absurd cc
or_false false b is = (refl, is)

by_head : (call n : ℕ) (listed : List ℕ) (b : Bool) → (n == call) ≡ b → (b || list_any (λ m. m == call) listed) ≡ true → (list_any (λ m. m == call) listed ≡ true → listed_before call listed < listed_before (call + 1) listed)
    → listed_before call (n ∷ listed) < listed_before (call + 1) (n ∷ listed)
by_head call n listed true same is rest = omega (arith, at_head call n listed, at_head (call + 1) n listed, one_listed call n same, more_before call listed)
by_head call n listed false other is rest = omega (arith, at_head call n listed, at_head (call + 1) n listed, one_more call n, rest is)

-- a listed call adds to the count
pub listed_counts : (call : ℕ) (listed : List ℕ) → list_any (λ n. n == call) listed ≡ true → listed_before call listed < listed_before (call + 1) listed
listed_counts call [] is = absurd cc
listed_counts call (n ∷ listed) is = by_head call n listed (n == call) refl is (listed_counts call listed)

-- another call doesn't
pub other_counts : (call : ℕ) (listed : List ℕ) → list_any (λ n. n == call) listed ≡ false → listed_before (call + 1) listed ≡ listed_before call listed
other_counts call [] is = refl
other_counts call (n ∷ listed) is =
    let parts = or_false (n == call) (list_any (λ m. m == call) listed) is in
    omega (arith, at_head call n listed, at_head (call + 1) n listed, one_other call n parts.0, other_counts call listed parts.1)
