-- A walk round a ring, step by step.
use Rattle.std.proofs.Common.{◌≡◌, ◌⊎◌, inl, inr, ℕ, zero, suc, ◌+◌, ◌<◌, ◌≤◌, List, [], ◌∷◌, ◌++◌, length, map, take, get_or, set, refl, sym, ap, ◌∙◌, subst, arith, get_or-set_other, get_or-set_same}
use Rattle.std.specs.Iterator.{Yields, YieldsFirst}
use Rattle.lq_prover_congruence.specs.Classes.Core.{AllBelow}
use Rattle.std.proofs.lemmas.List.{take_more, map_push}
use Rattle.std.proofs.lemmas.Bool.{cases_eq}
use Rattle.std.proofs.lemmas.Bool.Decides.{nat_tests}
use Rattle.lq_prover_congruence.specs.Ring.Ring.{times}

pub walk-split : (s xs t : List ℕ) → Yields (YieldsFirst (λ (w : List ℕ). w)) s xs t → s ≡ xs ++ t
walk-split s [] t y = y
walk-split s (x ∷ xs) t y = y.1 ∙ ap (λ l. x ∷ l) (walk-split y.0 xs t y.2)

pub times-append : (i : ℕ) (xs ys : List ℕ) → times i (xs ++ ys) ≡ times i xs + times i ys
times-append i [] ys = omega arith
times-append i (x ∷ xs) ys = omega (arith, times-append i xs ys)

times-here : (i : ℕ) (xs : List ℕ) → times i (i ∷ xs) ≡ 1 + times i xs
times-here i xs = grind (arith, nat_tests)

times-other : (i x : ℕ) (xs : List ℕ) → (i ≡ x → ⊥) → times i (x ∷ xs) ≡ times i xs
times-other i x xs h = grind (arith, nat_tests)

-- the next one is of the ring
pub next-of : (s xs t u : List ℕ) (x : ℕ) → Yields (YieldsFirst (λ (w : List ℕ). w)) s xs t → t ≡ x ∷ u → 0 < times x s
next-of s xs t u x y e = omega (arith, ap (times x) (walk-split s xs t y), times-append x xs t, ap (times x) e, times-here x u)

-- one more
pub more-times : (i x : ℕ) (xs : List ℕ) → ((i ≡ x) × (0 < times i (xs ++ x ∷ []))) ⊎ ((i ≡ x → ⊥) × (times i (xs ++ x ∷ []) ≡ times i xs))
more-times i x xs =
    elim (cases_eq i x) [
      | inl e ↦ inl (e, omega (arith, times-append i xs (x ∷ []), is-here i x e))
      | inr d ↦ inr (d, omega (arith, times-append i xs (x ∷ []), times-other i x [] d))
    ]
  where
    is-here : (i x : ℕ) → i ≡ x → times i (x ∷ []) ≡ 1
    is-here i x e = grind (arith, nat_tests)

pub set-ring : (labels xs : List ℕ) (x label : ℕ) → x < length labels → ((i : ℕ) → 0 < times i xs → get_or labels i 0 ≡ label) → (i : ℕ) → 0 < times i (xs ++ x ∷ []) → get_or (set labels x label) i 0 ≡ label
set-ring labels xs x label l h i k =
    elim (more-times i x xs) [
      | inl p ↦ (let P : ℕ → Type 0 = λ n. get_or (set labels x label) n 0 ≡ label in subst P (sym p.0) (rw get_or-set_same refl))
      | inr p ↦ (let d : i ≡ x → ⊥ = p.0 in rw get_or-set_other (h i (omega (arith, p.1))))
    ]

pub set-others : (labels old xs : List ℕ) (x label : ℕ) → ((i : ℕ) → times i xs ≡ 0 → get_or labels i 0 ≡ get_or old i 0) → (i : ℕ) → times i (xs ++ x ∷ []) ≡ 0 → get_or (set labels x label) i 0 ≡ get_or old i 0
set-others labels old xs x label h i k =
    elim (more-times i x xs) [
      | inl p ↦ absurd (omega (arith, p.1))
      | inr p ↦ (let d : i ≡ x → ⊥ = p.0 in rw get_or-set_other (h i (omega (arith, p.1))))
    ]

-- the users of one more
pub more-users : (uses : List (List ℕ)) (xs : List ℕ) (x : ℕ) (first queue users more : List ℕ) → more ≡ queue ++ users → users ≡ get_or uses x []
    → ((i : ℕ) → 0 < times i first → 0 < times i queue)
    → ((a i : ℕ) → 0 < times a xs → 0 < times i (get_or uses a []) → 0 < times i queue)
    → ((i : ℕ) → 0 < times i first → 0 < times i more) × ((a i : ℕ) → 0 < times a (xs ++ x ∷ []) → 0 < times i (get_or uses a []) → 0 < times i more)
more-users uses xs x first queue users more e f k h =
    let count : (i : ℕ) → times i more ≡ times i queue + times i users = λ i. ap (times i) e ∙ times-append i queue users in (
      λ i z. omega (arith, k i z, count i),
      λ a i m u. elim (more-times a x xs) [
        | inl p ↦ (let P : ℕ → Type 0 = λ n. 0 < times i (get_or uses n []) in omega (arith, count i, ap (times i) f, subst P p.0 u))
        | inr p ↦ omega (arith, count i, h a i (omega (arith, p.1)) u)
      ],
    )

-- the next one has its place
pub in-room : (s w xs t u : List ℕ) (x n m : ℕ) → Yields (YieldsFirst (λ (w : List ℕ). w)) s xs t → t ≡ x ∷ u → s ≡ w → ((j : ℕ) → 0 < times j w → j < n) → n ≤ m → x < m
in-room s w xs t u x n m y e f h k =
    let P : List ℕ → Type 0 = λ l. 0 < times x l in
    omega (arith, h x (subst P f (next-of s xs t u x y e)))

-- ---- the arguments of a signature

pub below-at : (n : ℕ) (xs : List ℕ) (k : ℕ) → AllBelow n xs → k < length xs → get_or xs k 0 < n
below-at n [] k h l = absurd (omega arith)
below-at n (x ∷ xs) zero h l = h.0
below-at n (x ∷ xs) (suc k) h l = below-at n xs k h.1 (omega arith)

pub map-more : (f : ℕ → ℕ) (xs : List ℕ) (n : ℕ) → n < length xs → map f (take (n + 1) xs) ≡ map f (take n xs) ++ f (get_or xs n 0) ∷ []
map-more f xs n h = ap (map f) (take_more xs n 0 h) ∙ map_push f (take n xs) (get_or xs n 0)
