-- Numbers that rise, as those of binders do.
use Rattle.std.specs.Prelude.{◌==◌, if◌then◌else◌}
use Rattle.std.proofs.Common.{◌≡◌, ℕ, zero, suc, ◌+◌, ◌<◌, ◌≤◌, Bool, false, List, [], ◌∷◌, ◌++◌, length, Some, None, refl, sym, ap, subst, ◌∙◌, arith, append_assoc}
use Rattle.std.proofs.lemmas.Bool.{ne_eqb}
use Rattle.lq_text_walk.specs.Walk.Visits.{Visit}
use Rattle.lq_text_walk.specs.Scoped.Numbers.{binders_at, binders_in, from_on}
use Rattle.lq_types_rules.specs.Typings.Uses.{General, before_in}
use Rattle.lq_types_rules.proofs.TypingsLemmas.Lists.{AllOf}

-- each is above those before it, and the first is not below this one
abbrev pub Rising : ℕ → List ℕ → Type 0
Rising b [] = Unit {0}
Rising b (x ∷ xs) = (b ≤ x) × Rising (suc x) xs

-- what comes behind them is not below this
abbrev pub above : ℕ → List ℕ → ℕ
above b [] = b
above b (x ∷ xs) = above (suc x) xs

pub rising_left : (b : ℕ) (xs ys : List ℕ) → Rising b (xs ++ ys) → Rising b xs
rising_left b [] ys h = tt
rising_left b (x ∷ xs) ys h = (h.0, rising_left (suc x) xs ys h.1)

pub rising_right : (b : ℕ) (xs ys : List ℕ) → Rising b (xs ++ ys) → Rising (above b xs) ys
rising_right b [] ys h = h
rising_right b (x ∷ xs) ys h = rising_right (suc x) xs ys h.1

pub not_above : (b : ℕ) (xs : List ℕ) → Rising b xs → b ≤ above b xs
not_above b [] h = omega arith
not_above b (x ∷ xs) h = let low = h.0 in let rest = not_above (suc x) xs h.1 in omega (arith, low, rest)

pub rising_weaker : (a b : ℕ) (xs : List ℕ) → a ≤ b → Rising b xs → Rising a xs
rising_weaker a b [] low h = tt
rising_weaker a b (x ∷ xs) low h = let first = h.0 in (omega (arith, low, first), h.1)

pub rising_in : (b : ℕ) (xs : List ℕ) → Rising b xs → AllOf (λ x. b ≤ x) xs
rising_in b [] h = tt
rising_in b (x ∷ xs) h = let low = h.0 in let less : b ≤ suc x = omega (arith, low) in (h.0, rising_in b xs (rising_weaker b (suc x) xs less h.1))

pub rising_from : (n m : ℕ) → Rising n (from_on n m)
rising_from n zero = tt
rising_from n (suc m) = (omega arith, rising_from (suc n) m)

-- ---- binders of visits

pub binders_append : (us vs : List Visit) → binders_in (us ++ vs) ≡ binders_in us ++ binders_in vs
binders_append [] vs = refl
binders_append (u ∷ us) vs = ap (λ (xs : List ℕ). binders_at u ++ xs) (binders_append us vs) ∙ sym (append_assoc (binders_at u) (binders_in us) (binders_in vs))

-- what is generalised has a binder below this one
abbrev pub Below : ℕ → List General → Type 0
Below b ds = AllOf (λ d. d.binder < b) ds

missed : (ds : List General) (ps : List ℕ) (x : ℕ) (c : Bool) → c ≡ false → before_in ds x ≡ None → (if c then Some ps else before_in ds x) ≡ None
missed ds ps x c is none = subst (λ b. (if b then Some ps else before_in ds x) ≡ None) (sym is) none

pub local : (b x : ℕ) (ds : List General) → Below b ds → b ≤ x → before_in ds x ≡ None
local b x [] h low = refl
local b x (d ∷ ds) h low =
    let less = h.0 in
    let other : d.binder ≡ x → ⊥ = λ e. omega (arith, e, less, low) in
    missed ds d.before x (d.binder == x) (ne_eqb d.binder x other) (local b x ds h.1 low)

pub below_more : (b c : ℕ) (ds : List General) → b ≤ c → Below b ds → Below c ds
below_more b c [] low h = tt
below_more b c (d ∷ ds) low h = let less = h.0 in (omega (arith, less, low), below_more b c ds low h.1)

-- ---- numbers that follow one another

abbrev pub Follow : ℕ → List ℕ → Type 0
Follow n [] = Unit {0}
Follow n (x ∷ xs) = (x ≡ n) × Follow (suc n) xs

pub follow_from : (n m : ℕ) → Follow n (from_on n m)
follow_from n zero = tt
follow_from n (suc m) = (refl, follow_from (suc n) m)

-- of such numbers a front has those below so many, and the rest the others
pub follow_low : (n m : ℕ) (xs ys : List ℕ) → n + length xs ≡ m → Follow n (xs ++ ys) → AllOf (λ i. i < m) xs
follow_low n m [] ys long h = tt
follow_low n m (x ∷ xs) ys long h =
    let first = h.0 in let more_long : suc n + length xs ≡ m = omega (arith, long) in
    (omega (arith, first, long), follow_low (suc n) m xs ys more_long h.1)

all_above : (n m : ℕ) (ys : List ℕ) → m ≤ n → Follow n ys → AllOf (λ i. m ≤ i) ys
all_above n m [] low h = tt
all_above n m (y ∷ ys) low h = let first = h.0 in (omega (arith, first, low), all_above (suc n) m ys (omega (arith, low)) h.1)

pub follow_high : (n m : ℕ) (xs ys : List ℕ) → n + length xs ≡ m → Follow n (xs ++ ys) → AllOf (λ i. m ≤ i) ys
follow_high n m [] ys long h = all_above n m ys (omega (arith, long)) h
follow_high n m (x ∷ xs) ys long h = let more_long : suc n + length xs ≡ m = omega (arith, long) in follow_high (suc n) m xs ys more_long h.1
