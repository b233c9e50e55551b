-- Numbers that rise, list by list, and the list in which each stands.
use Rattle.std.specs.Prelude.{nat_lt, if◌then◌else◌}
use Rattle.std.proofs.Common.{◌≡◌, ℕ, zero, suc, ◌+◌, ◌<◌, ◌≤◌, Bool, true, false, List, [], ◌∷◌, ◌++◌, refl, ◌∙◌, arith}
use Rattle.std.proofs.lemmas.Bool.{false≢true, true≢false, lt-ltb, le-ltb}
use Rattle.lq_text_walk.specs.Scoped.Numbers.{from_on, numbers_in}
use Rattle.lq_types_rules.proofs.VisitsLemmas.Lists.{AllOf}

-- each is above those before it, and the first is not below this one
abbrev pub Rising : ℕ → List ℕ → Type 0
Rising b [] = Unit {0}
Rising b (x ∷ xs) = (b ≤ x) × Rising (suc x) xs

-- what comes behind them is not below this
abbrev pub above : ℕ → List ℕ → ℕ
above b [] = b
above b (x ∷ xs) = above (suc x) xs

rising_left : (b : ℕ) (xs ys : List ℕ) → Rising b (xs ++ ys) → Rising b xs
rising_left b [] ys h = tt
rising_left b (x ∷ xs) ys h = (h.0, rising_left (suc x) xs ys h.1)

rising_right : (b : ℕ) (xs ys : List ℕ) → Rising b (xs ++ ys) → Rising (above b xs) ys
rising_right b [] ys h = h
rising_right b (x ∷ xs) ys h = rising_right (suc x) xs ys h.1

not_above : (b : ℕ) (xs : List ℕ) → Rising b xs → b ≤ above b xs
not_above b [] h = omega arith
not_above b (x ∷ xs) h = let low = h.0 in let rest = not_above (suc x) xs h.1 in omega (arith, low, rest)

pub rising_from : (n m : ℕ) → Rising n (from_on n m)
rising_from n zero = tt
rising_from n (suc m) = (omega arith, rising_from (suc n) m)

-- so many numbers from one on are below their end
pub from_below : (n m e : ℕ) → n + m ≤ e → AllOf (λ i. i < e) (from_on n m)
from_below n zero e h = tt
from_below n (suc m) e h = (omega (arith, h), from_below (suc n) m e (omega (arith, h)))

-- the number of the list in which a number stands, where the first has this number and its numbers are not below this
abbrev pub owner_in : ℕ → ℕ → List (List ℕ) → ℕ → ℕ
owner_in n b [] x = n
owner_in n b (xs ∷ xss) x = if nat_lt x (above b xs) then n else owner_in (suc n) (above b xs) xss x

-- those of each list have its number
abbrev pub AreIn : (ℕ → ℕ) → ℕ → List (List ℕ) → Type 0
AreIn owner n [] = Unit {0}
AreIn owner n (xs ∷ xss) = AllOf (λ x. owner x ≡ n) xs × AreIn owner (suc n) xss

below_end : (n m x : ℕ) (c : Bool) → c ≡ true → (if c then n else m) ≡ n
below_end n m x true h = refl
below_end n m x false h = absurd (false≢true h)

behind_end : (n m x : ℕ) (c : Bool) → c ≡ false → (if c then n else m) ≡ m
behind_end n m x false h = refl
behind_end n m x true h = absurd (true≢false h)

module _ (owner : ℕ → ℕ) where
  each_in : (n b e : ℕ) (xs : List ℕ) → Rising b xs → ((x : ℕ) → b ≤ x → x < above b xs → owner x ≡ n) → AllOf (λ x. owner x ≡ n) xs
  each_in n b e [] up same = tt
  each_in n b e (x ∷ xs) up same =
      let low = up.0 in let rest = not_above (suc x) xs up.1 in
      (same x low (omega (arith, rest)), each_in n (suc x) e xs up.1 (λ y l h. same y (omega (arith, l, low)) h))

  pub are_in : (n b : ℕ) (xss : List (List ℕ)) → Rising b (numbers_in xss) → ((x : ℕ) → b ≤ x → owner x ≡ owner_in n b xss x) → AreIn owner n xss
  are_in n b [] up same = tt
  are_in n b (xs ∷ xss) up same =
      let own = rising_left b xs (numbers_in xss) up in
      let low = not_above b xs own in
      let rest : ℕ → ℕ = λ x. owner_in (suc n) (above b xs) xss x in (
        each_in n b b xs own (λ x l h. same x l ∙ below_end n (rest x) x (nat_lt x (above b xs)) (lt-ltb x (above b xs) h)),
        are_in (suc n) (above b xs) xss (rising_right b xs (numbers_in xss) up)
            (λ x l. same x (omega (arith, l, low)) ∙ behind_end n (rest x) x (nat_lt x (above b xs)) (le-ltb x (above b xs) l)),
      )
