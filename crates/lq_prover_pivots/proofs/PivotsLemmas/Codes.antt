-- How many codes there are that differ: words of n places, of which k are taken by one of three things.
use Rattle.std.proofs.Common.{◌≡◌, ℕ, zero, suc, ◌+◌, ◌*◌, ◌^◌, ◌<◌, ◌≤◌, ◌⊎◌, inl, inr, arith, refl, sym, ap, subst, ◌∙◌, Bool, true, false, List, [], ◌∷◌, length}
use Rattle.std.proofs.lemmas.Bool.{cases_eq}
use Rattle.std.proofs.Math.Nat.{pow-succ', mul-add, mul_assoc, mul-zero}
use Rattle.lq_prover_pivots.specs.Pivots.Ranges.{one_if, count_below}
use Rattle.lq_prover_pivots.specs.Pivots.Laws.{choose}

pub data Place : Type 0 where
  basis : Place
  low : Place
  high : Place
  start : Place

abbrev pub Code : Type 0
Code = ℕ → Place

abbrev pub is_free_at : Place → Bool
is_free_at basis = false
is_free_at low = true
is_free_at high = true
is_free_at start = true

abbrev pub free_places : ℕ → Code → ℕ
free_places n x = count_below n (λ j. is_free_at (x j))

abbrev pub Agree : ℕ → Code → Code → Type 0
Agree n x y = (j : ℕ) → j < n → x j ≡ y j

abbrev pub AllIn : (Code → Type 0) → List Code → Type 0
AllIn P [] = Unit {0}
AllIn P (x ∷ xs) = P x × AllIn P xs

-- no two of them agree on the first n places
abbrev pub Apart : ℕ → List Code → Type 0
Apart n [] = Unit {0}
Apart n (x ∷ xs) = AllIn (λ y. ¬ Agree n x y) xs × Apart n xs

-- ---- those with the same at one place
abbrev same_place : Place → Place → Bool
same_place basis basis = true
same_place low low = true
same_place high high = true
same_place start start = true
same_place p q = false

same_is : (p q : Place) → same_place p q ≡ true → p ≡ q
same_is basis basis e = refl
same_is low low e = refl
same_is high high e = refl
same_is start start e = refl
same_is basis low e = absurd (cc)
same_is basis high e = absurd (cc)
same_is basis start e = absurd (cc)
same_is low basis e = absurd (cc)
same_is low high e = absurd (cc)
same_is low start e = absurd (cc)
same_is high basis e = absurd (cc)
same_is high low e = absurd (cc)
same_is high start e = absurd (cc)
same_is start basis e = absurd (cc)
same_is start low e = absurd (cc)
same_is start high e = absurd (cc)

abbrev put_if : Bool → Code → List Code → List Code
put_if true x xs = x ∷ xs
put_if false x xs = xs

abbrev with_place : Place → ℕ → List Code → List Code
with_place p n [] = []
with_place p n (x ∷ xs) = put_if (same_place p (x n)) x (with_place p n xs)

put_length : (b : Bool) (x : Code) (xs : List Code) → length (put_if b x xs) ≡ one_if b + length xs
put_length true x xs = omega arith
put_length false x xs = omega arith

one_of_four : (q : Place) → one_if (same_place basis q) + one_if (same_place low q) + one_if (same_place high q) + one_if (same_place start q) ≡ 1
one_of_four basis = refl
one_of_four low = refl
one_of_four high = refl
one_of_four start = refl

four_parts : (n : ℕ) (xs : List Code) → length xs ≡ length (with_place basis n xs) + length (with_place low n xs) + length (with_place high n xs) + length (with_place start n xs)
four_parts n [] = refl
four_parts n (x ∷ xs) =
    let h = four_parts n xs in
    let one = one_of_four (x n) in
    let a = put_length (same_place basis (x n)) x (with_place basis n xs) in
    let b = put_length (same_place low (x n)) x (with_place low n xs) in
    let c = put_length (same_place high (x n)) x (with_place high n xs) in
    let d = put_length (same_place start (x n)) x (with_place start n xs) in
    omega arith

-- what follows from the place holds of all that have it
part_all : (P Q : Code → Type 0) (p : Place) (n : ℕ) (xs : List Code) → ((x : Code) → P x → p ≡ x n → Q x) → AllIn P xs → AllIn Q (with_place p n xs)
part_all P Q p n [] f h = tt
part_all P Q p n (x ∷ xs) f h = by (same_place p (x n)) refl (part_all P Q p n xs f h.1)
  where
    by : (b : Bool) → same_place p (x n) ≡ b → AllIn Q (with_place p n xs) → AllIn Q (put_if b x (with_place p n xs))
    by true e rest = (f x h.0 (same_is p (x n) e), rest)
    by false e rest = rest

agree_more : (n : ℕ) (x y : Code) → x n ≡ y n → Agree n x y → Agree (suc n) x y
agree_more n x y e h j l = by (cases_eq j n)
  where
    by : (j ≡ n) ⊎ (j ≡ n → ⊥) → x j ≡ y j
    by (inl q) = subst (λ m. x m ≡ y m) (sym q) e
    by (inr q) = h j (omega arith)

part_apart : (p : Place) (n : ℕ) (xs : List Code) → Apart (suc n) xs → Apart n (with_place p n xs)
part_apart p n [] h = tt
part_apart p n (x ∷ xs) h = by (same_place p (x n)) refl (part_apart p n xs h.1)
  where
    by : (b : Bool) → same_place p (x n) ≡ b → Apart n (with_place p n xs) → Apart n (put_if b x (with_place p n xs))
    by true e rest =
        (part_all (λ y. ¬ Agree (suc n) x y) (λ y. ¬ Agree n x y) p n xs (λ y apart q agree. apart (agree_more n x y (sym (same_is p (x n) e) ∙ q) agree)) h.0, rest)
    by false e rest = rest

none_in : (P : Code → Type 0) (xs : List Code) → ((x : Code) → P x → ⊥) → AllIn P xs → length xs ≡ 0
none_in P [] f h = refl
none_in P (x ∷ xs) f h = absurd (f x h.0)

-- ---- the count
abbrev ways : ℕ → ℕ → ℕ
ways zero zero = 1
ways zero (suc k) = 0
ways (suc n) zero = ways n zero
ways (suc n) (suc k) = ways n (suc k) + (ways n k + ways n k + ways n k)

abbrev pub HasPlaces : ℕ → ℕ → Code → Type 0
HasPlaces n k x = free_places n x ≡ k

basis_places : (n k : ℕ) (x : Code) → HasPlaces (suc n) k x → basis ≡ x n → HasPlaces n k x
basis_places n k x h e = let q : one_if (is_free_at (x n)) ≡ 0 = ap (λ p. one_if (is_free_at p)) (sym e) in omega arith

other_places : (p : Place) → is_free_at p ≡ true → (n k : ℕ) (x : Code) → HasPlaces (suc n) k x → p ≡ x n → free_places n x + 1 ≡ k
other_places p f n k x h e = let q : one_if (is_free_at (x n)) ≡ 1 = ap (λ p. one_if (is_free_at p)) (sym e) ∙ ap one_if f in omega arith

in_ways : (n k : ℕ) (xs : List Code) → Apart n xs → AllIn (HasPlaces n k) xs → length xs ≤ ways n k
in_ways zero k [] apart h = omega arith
in_ways zero zero (x ∷ []) apart h = omega arith
in_ways zero (suc k) (x ∷ []) apart h = absurd (let q : 0 ≡ suc k = h.0 in omega arith)
in_ways zero k (x ∷ y ∷ xs) apart h = absurd (apart.0.0 (λ j l. absurd (omega arith)))
in_ways (suc n) zero xs apart h =
    let all = four_parts n xs in
    let none = λ (p : Place) (f : is_free_at p ≡ true).
    none_in (λ x. free_places n x + 1 ≡ 0) (with_place p n xs) (λ x e. absurd (omega arith)) (part_all (HasPlaces (suc n) zero) _ p n xs (other_places p f n zero) h) in
    let b = in_ways n zero (with_place basis n xs) (part_apart basis n xs apart) (part_all (HasPlaces (suc n) zero) (HasPlaces n zero) basis n xs (basis_places n zero) h) in
    let l = none low refl in let u = none high refl in let s = none start refl in
    omega arith
in_ways (suc n) (suc k) xs apart h =
    let all = four_parts n xs in
    let some = λ (p : Place) (f : is_free_at p ≡ true).
    in_ways n k (with_place p n xs) (part_apart p n xs apart)
    (part_all (HasPlaces (suc n) (suc k)) (HasPlaces n k) p n xs (λ x e q. let r = other_places p f n (suc k) x e q in let t : free_places n x ≡ k = omega arith in t) h) in
    let b = in_ways n (suc k) (with_place basis n xs) (part_apart basis n xs apart) (part_all (HasPlaces (suc n) (suc k)) (HasPlaces n (suc k)) basis n xs (basis_places n (suc k)) h) in
    let l = some low refl in let u = some high refl in let s = some start refl in
    omega arith

pub ways_are : (n k : ℕ) → ways n k ≡ 3 ^ k * choose n k
ways_are zero zero = refl
ways_are zero (suc k) = sym (mul-zero (3 ^ suc k))
ways_are (suc n) zero = ways_are n zero ∙ by n
  where
    by : (n : ℕ) → 3 ^ 0 * choose n zero ≡ 3 ^ 0 * choose (suc n) zero
    by zero = refl
    by (suc n) = refl
ways_are (suc n) (suc k) =
    let a = ways_are n (suc k) in let b = ways_are n k in
    let p : 3 ^ suc k * choose n k ≡ 3 * (3 ^ k * choose n k) = ap (λ t. t * choose n k) (pow-succ' 3 k) ∙ mul_assoc 3 (3 ^ k) (choose n k) in
    let q = mul-add (3 ^ suc k) (choose n k) (choose n (suc k)) in
    let r : ways n (suc k) + (ways n k + ways n k + ways n k) ≡ 3 ^ suc k * choose n k + 3 ^ suc k * choose n (suc k) = omega arith in
    r ∙ sym q

pub codes_at_most : (n k : ℕ) (xs : List Code) → Apart n xs → AllIn (HasPlaces n k) xs → length xs ≤ 3 ^ k * choose n k
codes_at_most n k xs apart h = subst (λ t. length xs ≤ t) (ways_are n k) (in_ways n k xs apart h)
