-- The operations on pairs respect `Same`, as `Same-sum_l` says of sums, so they are operations on rationals. For `Rational` alone.
use Rattle.std.proofs.Common.{suc, arith, ap}
use Rattle.std.proofs.Math.IntN.{pos, ◌*ℤ◌}
use Rattle.lq_base_numbers.specs.Rationals.Pairs.{Pair, Same, below, times, pair_sum, pair_difference, pair_product}
use Rattle.lq_base_numbers.specs.Rationals.IntRing.{at, ◌⊕◌, ◌⊖◌, ◌⊗◌, ring, ring_out}

pub Same-sum_l : (a a' b : Pair) → Same a a' → Same (pair_sum a b) (pair_sum a' b)
Same-sum_l a a' b e =
    let n = at a.0 in let m = at b.0 in let n' = at a'.0 in
    let D = at (below a) in let D' = at (below a') in let E = at (below b) in
    ring ((n ⊗ E ⊕ m ⊗ D) ⊗ at (pos (suc (times a'.1 b.1)))) ((n' ⊗ E ⊕ m ⊗ D') ⊗ at (pos (suc (times a.1 b.1))))
    (omega (arith, ring_out (E ⊗ E ⊗ (n ⊗ D')) (E ⊗ E ⊗ (n' ⊗ D)) (ap (λ x. below b *ℤ below b *ℤ x) e)))

pub Same-difference_l : (a a' b : Pair) → Same a a' → Same (pair_difference a b) (pair_difference a' b)
Same-difference_l a a' b e =
    let n = at a.0 in let m = at b.0 in let n' = at a'.0 in
    let D = at (below a) in let D' = at (below a') in let E = at (below b) in
    ring ((n ⊗ E ⊖ m ⊗ D) ⊗ at (pos (suc (times a'.1 b.1)))) ((n' ⊗ E ⊖ m ⊗ D') ⊗ at (pos (suc (times a.1 b.1))))
    (omega (arith, ring_out (E ⊗ E ⊗ (n ⊗ D')) (E ⊗ E ⊗ (n' ⊗ D)) (ap (λ x. below b *ℤ below b *ℤ x) e)))

pub Same-difference_r : (a b b' : Pair) → Same b b' → Same (pair_difference a b) (pair_difference a b')
Same-difference_r a b b' e =
    let n = at a.0 in let m = at b.0 in let m' = at b'.0 in
    let D = at (below a) in let E = at (below b) in let E' = at (below b') in
    ring ((n ⊗ E ⊖ m ⊗ D) ⊗ at (pos (suc (times a.1 b'.1)))) ((n ⊗ E' ⊖ m' ⊗ D) ⊗ at (pos (suc (times a.1 b.1))))
    (omega (arith, ring_out (D ⊗ D ⊗ (m ⊗ E')) (D ⊗ D ⊗ (m' ⊗ E)) (ap (λ x. below a *ℤ below a *ℤ x) e)))

pub Same-product_l : (a a' b : Pair) → Same a a' → Same (pair_product a b) (pair_product a' b)
Same-product_l a a' b e =
    let n = at a.0 in let m = at b.0 in let n' = at a'.0 in
    let D = at (below a) in let D' = at (below a') in let E = at (below b) in
    ring (n ⊗ m ⊗ at (pos (suc (times a'.1 b.1)))) (n' ⊗ m ⊗ at (pos (suc (times a.1 b.1))))
    (omega (arith, ring_out (m ⊗ E ⊗ (n ⊗ D')) (m ⊗ E ⊗ (n' ⊗ D)) (ap (λ x. b.0 *ℤ below b *ℤ x) e)))

pub Same-sum_r : (a b b' : Pair) → Same b b' → Same (pair_sum a b) (pair_sum a b')
Same-sum_r a b b' e =
    let n = at a.0 in let m = at b.0 in let m' = at b'.0 in
    let D = at (below a) in let E = at (below b) in let E' = at (below b') in
    ring ((n ⊗ E ⊕ m ⊗ D) ⊗ at (pos (suc (times a.1 b'.1)))) ((n ⊗ E' ⊕ m' ⊗ D) ⊗ at (pos (suc (times a.1 b.1))))
    (omega (arith, ring_out (D ⊗ D ⊗ (m ⊗ E')) (D ⊗ D ⊗ (m' ⊗ E)) (ap (λ x. below a *ℤ below a *ℤ x) e)))

pub Same-product_r : (a b b' : Pair) → Same b b' → Same (pair_product a b) (pair_product a b')
Same-product_r a b b' e =
    let n = at a.0 in let m = at b.0 in let m' = at b'.0 in
    let D = at (below a) in let E = at (below b) in let E' = at (below b') in
    ring (n ⊗ m ⊗ at (pos (suc (times a.1 b'.1)))) (n ⊗ m' ⊗ at (pos (suc (times a.1 b.1))))
    (omega (arith, ring_out (n ⊗ D ⊗ (m ⊗ E')) (n ⊗ D ⊗ (m' ⊗ E)) (ap (λ x. a.0 *ℤ below a *ℤ x) e)))
