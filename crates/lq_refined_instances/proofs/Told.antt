-- Counts that no more than 64 bits tell.
use Rattle.std.proofs.Common.{◌≡◌, ℕ, zero, suc, ◌+◌, ◌*◌, ◌-◌, ◌^◌, ◌≤◌, ◌<◌, min, ◌⊎◌, inl, inr, ap, ◌∙◌, arith}
use Rattle.std.proofs.Math.Nat.{le-mul_of_pos_right, mul_comm}
use Rattle.lq_refined_instances.specs.Instances.{told}

capped-plus : (m a b : ℕ) → min (min a m + min b m) m ≡ min (a + b) m
capped-plus m a b = omega arith

nothing : (n : ℕ) → n * 0 ≡ 0
nothing n = omega arith

-- a product with a factor past the limit
past_left : (m a b : ℕ) → m ≤ a → min (m * min b m) m ≡ min (a * b) m
past_left m a zero h =
    let none : min 0 m ≡ 0 = omega arith in
    let l : m * min 0 m ≡ 0 = ap (λ (n : ℕ). m * n) none ∙ nothing m in
    let r : a * 0 ≡ 0 = nothing a in omega arith
past_left zero a (suc b) h = omega arith
past_left (suc m) a (suc b) h =
    let one : 0 < min (suc b) (suc m) = omega arith in
    let left : suc m ≤ suc m * min (suc b) (suc m) = le-mul_of_pos_right (suc m) one in
    let right : a ≤ a * suc b = le-mul_of_pos_right a (omega arith) in omega arith

by_left : (m a b : ℕ) → (a ≤ m) ⊎ (m ≤ a) → (b ≤ m) ⊎ (m ≤ b) → min (min a m * min b m) m ≡ min (a * b) m
by_left m a b (inl h) (inl k) =
    let l : min a m ≡ a = omega arith in
    let r : min b m ≡ b = omega arith in ap (λ (n : ℕ). min (n * min b m) m) l ∙ ap (λ (n : ℕ). min (a * n) m) r
by_left m a b (inr h) k =
    let l : min a m ≡ m = omega arith in ap (λ (n : ℕ). min (n * min b m) m) l ∙ past_left m a b h
by_left m a b (inl h) (inr k) =
    let r : min b m ≡ m = omega arith in
    ap (λ (n : ℕ). min (min a m * n) m) r ∙ ap (λ (n : ℕ). min n m) (mul_comm (min a m) m) ∙ past_left m b a k ∙ ap (λ (n : ℕ). min n m) (mul_comm b a)

either : (a m : ℕ) → (a ≤ m) ⊎ (m ≤ a)
either zero m = inl (omega arith)
either (suc a) zero = inr (omega arith)
either (suc a) (suc m) = by (either a m)
  where
    by : (a ≤ m) ⊎ (m ≤ a) → (suc a ≤ suc m) ⊎ (suc m ≤ suc a)
    by (inl h) = inl (omega arith)
    by (inr h) = inr (omega arith)

capped-times : (m a b : ℕ) → min (min a m * min b m) m ≡ min (a * b) m
capped-times m a b = by_left m a b (either a m) (either b m)

pub told-plus : (a b : ℕ) → min (told a + told b) (2 ^ 64 - 1) ≡ told (a + b)
told-plus a b = capped-plus (2 ^ 64 - 1) a b

pub told-times : (a b : ℕ) → told (told a * told b) ≡ told (a * b)
told-times a b = capped-times (2 ^ 64 - 1) a b
