-- The members below a number, by their places, and counts of them.
use Rattle.std.proofs.Common.{◌≡◌, ◌≢◌, ℕ, zero, suc, pos, [], ◌∷◌, ◌+◌, ◌<◌, ◌≤◌, ◌⊎◌, inl, inr, arith, refl, sym, ap, ap₂, subst, ◌∙◌, Bool, true, false, ◌==◌, if◌then◌else◌}
use Rattle.std.proofs.lemmas.Bool.{cases_eq}
use Rattle.lq_base_numbers.specs.Rationals.Rational.{ℚ, whole, ◌+ℚ◌}
use Rattle.lq_base_numbers.specs.Rationals.Solver.{var, con, ◌⊕◌, solve}
use Rattle.lq_prover_pivots.specs.Pivots.Ranges.{sum_below, one_if, count_below, only_if}
use Rattle.lq_prover_pivots.proofs.PivotsLemmas.Ranges.{sum_below-same}
use Rattle.lq_prover_pivots.specs.Cramer.Determinants.{past}
use Rattle.lq_prover_pivots.proofs.CramerLemmas.Places.{eqb_by, past_apart, past_below}
use Rattle.lq_prover_pivots.proofs.CramerLemmas.Sizes.{count_same, count_past}

-- the member at place t
abbrev pub member : ℕ → (ℕ → Bool) → ℕ → ℕ
member zero f t = 0
member (suc s) f t = if t == count_below s f then s else member s f t

member_last : (s : ℕ) (f : ℕ → Bool) → member (suc s) f (count_below s f) ≡ s
member_last s f = eqb_by (count_below s f) (count_below s f) (λ q e. ap (λ b. if b then s else member s f (count_below s f)) q) (λ q e. absurd (e refl))

member_before : (s : ℕ) (f : ℕ → Bool) (t : ℕ) → t < count_below s f → member (suc s) f t ≡ member s f t
member_before s f t l = eqb_by t (count_below s f) (λ q e. absurd (omega arith)) (λ q e. ap (λ b. if b then s else member s f t) q)

count_on : (s : ℕ) (f : ℕ → Bool) → f s ≡ true → count_below (suc s) f ≡ suc (count_below s f)
count_on s f e = let h : one_if (f s) ≡ 1 = ap one_if e in omega arith

count_off : (s : ℕ) (f : ℕ → Bool) → f s ≡ false → count_below (suc s) f ≡ count_below s f
count_off s f e = let h : one_if (f s) ≡ 0 = ap one_if e in omega arith

pub split : (b : Bool) → (b ≡ true) ⊎ (b ≡ false)
split true = inl refl
split false = inr refl

pub record IsMember (s : ℕ) (f : ℕ → Bool) (j : ℕ) : Type 0 where
  pub below : j < s
  pub is_in : f j ≡ true

pub member_is : (s : ℕ) (f : ℕ → Bool) (t : ℕ) → t < count_below s f → IsMember s f (member s f t)
member_is zero f t l = absurd (omega arith)
member_is (suc s) f t l = by (λ m. member_is s f t m) (split (f s)) (cases_eq t (count_below s f))
  where
    next : t < count_below s f → IsMember s f (member s f t) → IsMember (suc s) f (member (suc s) f t)
    next m is = let o = is.below in subst (IsMember (suc s) f) (sym (member_before s f t m)) (record { below = omega arith; is_in = is.is_in })

    by : (t < count_below s f → IsMember s f (member s f t)) → (f s ≡ true) ⊎ (f s ≡ false) → (t ≡ count_below s f) ⊎ (t ≡ count_below s f → ⊥) → IsMember (suc s) f (member (suc s) f t)
    by before (inr e) q = let c = count_off s f e in let m : t < count_below s f = omega arith in next m (before m)
    by before (inl e) (inr u) = let c = count_on s f e in let m : t < count_below s f = omega arith in next m (before m)
    by before (inl e) (inl q) = subst (λ t. IsMember (suc s) f (member (suc s) f t)) (sym q) (subst (IsMember (suc s) f) (sym (member_last s f)) (record { below = omega arith; is_in = e }))

-- the place of a member
pub record HasPlace (s : ℕ) (f : ℕ → Bool) (j : ℕ) : Type 0 where
  pub place : ℕ
  pub inside : place < count_below s f
  pub is : member s f place ≡ j

pub place_of : (s : ℕ) (f : ℕ → Bool) (j : ℕ) → j < s → f j ≡ true → HasPlace s f j
place_of zero f j l e = absurd (omega arith)
place_of (suc s) f j l e = by (λ m. place_of s f j m e) (cases_eq j s)
  where
    by : (j < s → HasPlace s f j) → (j ≡ s) ⊎ (j ≡ s → ⊥) → HasPlace (suc s) f j
    by before (inl q) =
        let c = count_on s f (ap f (sym q) ∙ e) in
        record { place = count_below s f; inside = omega arith; is = member_last s f ∙ sym q }
    by before (inr u) =
        let h = before (omega arith) in
        let m = h.inside in
        record { place = h.place; inside = omega arith; is = member_before s f h.place m ∙ h.is }

only_on : (b : Bool) (x : ℚ) → b ≡ true → x ≡ only_if b x
only_on true x e = refl
only_on false x e = absurd (cc)

only_off : (b : Bool) (x : ℚ) → b ≡ false → only_if b x ≡ whole (pos 0)
only_off true x e = absurd (cc)
only_off false x e = refl

-- a sum over the members, by places or by numbers
pub member_sum : (s : ℕ) (f : ℕ → Bool) (g : ℕ → ℚ) → sum_below (count_below s f) (λ t. g (member s f t)) ≡ sum_below s (λ j. only_if (f j) (g j))
member_sum zero f g = refl
member_sum (suc s) f g = by (member_sum s f g) (split (f s))
  where
    c : ℕ
    c = count_below s f

    by : sum_below (count_below s f) (λ t. g (member s f t)) ≡ sum_below s (λ j. only_if (f j) (g j)) → (f s ≡ true) ⊎ (f s ≡ false)
        → sum_below (count_below (suc s) f) (λ t. g (member (suc s) f t)) ≡ sum_below (suc s) (λ j. only_if (f j) (g j))
    by before (inl e) =
        ap (λ k. sum_below k (λ t. g (member (suc s) f t))) (count_on s f e)
        ∙ ap₂ (λ x y. x +ℚ y)
        (sum_below-same (count_below s f) (λ t. g (member (suc s) f t)) (λ t. g (member s f t)) (λ t l. ap g (member_before s f t l)) ∙ before)
        (ap g (member_last s f) ∙ only_on (f s) (g s) e)
    by before (inr e) =
        ap (λ k. sum_below k (λ t. g (member (suc s) f t))) (count_off s f e)
        ∙ sum_below-same (count_below s f) (λ t. g (member (suc s) f t)) (λ t. g (member s f t)) (λ t l. ap g (member_before s f t l))
        ∙ before
        ∙ solve (sum_below s (λ j. only_if (f j) (g j)) ∷ []) (var 0) (var 0 ⊕ con (pos 0)) refl
        ∙ ap (λ x. sum_below s (λ j. only_if (f j) (g j)) +ℚ x) (sym (only_off (f s) (g s) e))

abbrev pub both : Bool → Bool → Bool
both true b = b
both false b = false

pub member_count : (s : ℕ) (f w : ℕ → Bool) → count_below (count_below s f) (λ t. w (member s f t)) ≡ count_below s (λ j. both (f j) (w j))
member_count zero f w = refl
member_count (suc s) f w = by (member_count s f w) (split (f s))
  where
    by : count_below (count_below s f) (λ t. w (member s f t)) ≡ count_below s (λ j. both (f j) (w j)) → (f s ≡ true) ⊎ (f s ≡ false)
        → count_below (count_below (suc s) f) (λ t. w (member (suc s) f t)) ≡ count_below (suc s) (λ j. both (f j) (w j))
    by before (inl e) =
        ap (λ k. count_below k (λ t. w (member (suc s) f t))) (count_on s f e)
        ∙ ap₂ (λ x y. x + one_if y)
        (count_same (count_below s f) (λ t. w (member (suc s) f t)) (λ t. w (member s f t)) (λ t l. ap w (member_before s f t l)) ∙ before)
        (ap w (member_last s f) ∙ ap (λ b. both b (w s)) (sym e))
    by before (inr e) =
        let i : one_if (both (f s) (w s)) ≡ 0 = ap (λ b. one_if (both b (w s))) e in
        let h = ap (λ k. count_below k (λ t. w (member (suc s) f t))) (count_off s f e)
        ∙ count_same (count_below s f) (λ t. w (member (suc s) f t)) (λ t. w (member s f t)) (λ t l. ap w (member_before s f t l))
        ∙ before in
        omega arith

-- ---- counts
pub count_part : (n : ℕ) (f g : ℕ → Bool) → ((k : ℕ) → k < n → f k ≡ true → g k ≡ true) → count_below n f ≤ count_below n g
count_part zero f g h = omega arith
count_part (suc n) f g h =
    let before = count_part n f g (λ k l e. h k (omega arith) e) in
    let one = ones (f n) (g n) (h n (omega arith)) in
    omega arith
  where
    ones : (a b : Bool) → (a ≡ true → b ≡ true) → one_if a ≤ one_if b
    ones true b h = let e : one_if b ≡ 1 = ap one_if (h refl) in omega arith
    ones false b h = omega arith

-- one that is counted in the second only
pub count_one_more : (n i : ℕ) (f g : ℕ → Bool) → i < n → ((k : ℕ) → k < n → f k ≡ true → g k ≡ true) → f i ≡ false → count_below n f + one_if (g i) ≤ count_below n g
count_one_more zero i f g l h e = absurd (omega arith)
count_one_more (suc n) i f g l h e =
    let p = count_past n i f l in
    let q = count_past n i g l in
    let o : one_if (f i) ≡ 0 = ap one_if e in
    let r = count_part n (λ a. f (past i a)) (λ a. g (past i a)) (λ k m. h (past i k) (past_below i k n m)) in
    omega arith

-- one place changed
pub count_changed : (n i : ℕ) (f g : ℕ → Bool) → i < n → ((k : ℕ) → k ≢ i → f k ≡ g k) → count_below n f ≤ count_below n g + one_if (f i)
count_changed zero i f g l h = absurd (omega arith)
count_changed (suc n) i f g l h =
    let p = count_past n i f l in
    let q = count_past n i g l in
    let r = count_same n (λ a. f (past i a)) (λ a. g (past i a)) (λ a m. h (past i a) (past_apart i a)) in
    omega arith

-- at least n
abbrev pub from : ℕ → ℕ → Bool
from zero j = true
from (suc n) zero = false
from (suc n) (suc j) = from n j

pub from_is : (n j : ℕ) → ((n ≤ j) × (from n j ≡ true)) ⊎ ((j < n) × (from n j ≡ false))
from_is zero j = inl (omega arith, refl)
from_is (suc n) zero = inr (omega arith, refl)
from_is (suc n) (suc j) = elim (from_is n j) [
  | inl h ↦ inl (let l = h.0 in omega arith, h.1)
  | inr h ↦ inr (let l = h.0 in omega arith, h.1)
]

pub count_from : (s n m : ℕ) → s ≤ n + m → count_below s (from n) ≤ m
count_from zero n m l = omega arith
count_from (suc s) n zero l =
    let before = count_from s n 0 (omega arith) in
    elim (from_is n s) [
      | inl h ↦ let k = h.0 in absurd (omega arith)
      | inr h ↦ let e : one_if (from n s) ≡ 0 = ap one_if h.1 in omega arith
    ]
count_from (suc s) n (suc m) l =
    let before = count_from s n m (omega arith) in
    let e = ones (from n s) in
    omega arith
  where
    ones : (b : Bool) → one_if b ≤ 1
    ones true = omega arith
    ones false = omega arith
