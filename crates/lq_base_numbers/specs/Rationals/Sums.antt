-- Sums over lists of rationals. A linear combination, a row at a point and a weighted sum of rows are such sums, each by its own
-- function of an entry, so the laws below hold for all of them. Example: `combination`.
use Rattle.std.proofs.Common.{◌≡◌, ℕ, refl, sym, ap, ap₂, ◌∙◌, List, [], ◌∷◌, ◌++◌, map, All}
use Rattle.std.proofs.Math.IntN.{ℤ, pos, ◌+ℤ◌}
use Rattle.std.proofs.lemmas.List.Elements.{All-head, All-tail}
use Rattle.lq_base_numbers.specs.Rationals.Rational.{ℚ, whole, ◌+ℚ◌, ◌-ℚ◌, ◌*ℚ◌}
use Rattle.lq_base_numbers.specs.Rationals.RationalOrder.{◌≤ℚ◌, NotNegative, NotNegative-zero, NotNegative-sum, ≤ℚ_refl}
use Rattle.lq_base_numbers.specs.Rationals.OrderLaws.{≤ℚ_sum}
use Rattle.lq_base_numbers.specs.Rationals.Solver.{var, con, ◌⊕◌, ◌⊖◌, ◌⊗◌, solve}
use Rattle.lq_base_numbers.specs.Rationals.Whole.{whole-sum}

-- the sum of f over the list
abbrev pub sum_of : {A : Type 0} → (A → ℚ) → List A → ℚ
sum_of f [] = whole (pos 0)
sum_of f (x ∷ xs) = f x +ℚ sum_of f xs

-- the same of whole numbers
abbrev pub whole_sum_of : {A : Type 0} → (A → ℤ) → List A → ℤ
whole_sum_of f [] = pos 0
whole_sum_of f (x ∷ xs) = f x +ℤ whole_sum_of f xs

pub sum_of-append : {A : Type 0} (f : A → ℚ) (xs ys : List A) → sum_of f (xs ++ ys) ≡ sum_of f xs +ℚ sum_of f ys
sum_of-append f [] ys = solve (sum_of f ys ∷ []) (var 0) (con (pos 0) ⊕ var 0) refl
sum_of-append f (x ∷ xs) ys =
    ap (λ t. f x +ℚ t) (sum_of-append f xs ys)
    ∙ solve (f x ∷ sum_of f xs ∷ sum_of f ys ∷ []) (var 0 ⊕ (var 1 ⊕ var 2)) (var 0 ⊕ var 1 ⊕ var 2) refl

pub sum_of-map : {A B : Type 0} (f : B → ℚ) (g : A → B) (xs : List A) → sum_of f (map g xs) ≡ sum_of (λ x. f (g x)) xs
sum_of-map f g [] = refl
sum_of-map f g (x ∷ xs) = ap (λ t. f (g x) +ℚ t) (sum_of-map f g xs)

-- functions that agree on the list have one sum
pub sum_of-same : {A : Type 0} (f g : A → ℚ) (xs : List A) → All (λ x. f x ≡ g x) xs → sum_of f xs ≡ sum_of g xs
sum_of-same f g [] h = refl
sum_of-same f g (x ∷ xs) h = ap₂ (λ s t. s +ℚ t) (All-head (λ x. f x ≡ g x) x xs h) (sum_of-same f g xs (All-tail (λ x. f x ≡ g x) x xs h))

pub sum_of-agree : {A : Type 0} (f g : A → ℚ) (xs : List A) → ((x : A) → f x ≡ g x) → sum_of f xs ≡ sum_of g xs
sum_of-agree f g [] h = refl
sum_of-agree f g (x ∷ xs) h = ap₂ (λ s t. s +ℚ t) (h x) (sum_of-agree f g xs h)

pub sum_of-zero : {A : Type 0} (f : A → ℚ) (xs : List A) → All (λ x. f x ≡ whole (pos 0)) xs → sum_of f xs ≡ whole (pos 0)
sum_of-zero f [] h = refl
sum_of-zero f (x ∷ xs) h = ap₂ (λ s t. s +ℚ t) (All-head (λ x. f x ≡ whole (pos 0)) x xs h) (sum_of-zero f xs (All-tail (λ x. f x ≡ whole (pos 0)) x xs h)) ∙ solve [] (con (pos 0) ⊕ con (pos 0)) (con (pos 0)) refl

pub sum_of-scale : {A : Type 0} (c : ℚ) (f : A → ℚ) (xs : List A) → sum_of (λ x. c *ℚ f x) xs ≡ c *ℚ sum_of f xs
sum_of-scale c f [] = solve (c ∷ []) (con (pos 0)) (var 0 ⊗ con (pos 0)) refl
sum_of-scale c f (x ∷ xs) =
    ap (λ t. c *ℚ f x +ℚ t) (sum_of-scale c f xs)
    ∙ solve (c ∷ f x ∷ sum_of f xs ∷ []) (var 0 ⊗ var 1 ⊕ var 0 ⊗ var 2) (var 0 ⊗ (var 1 ⊕ var 2)) refl

pub sum_of-plus : {A : Type 0} (f g : A → ℚ) (xs : List A) → sum_of (λ x. f x +ℚ g x) xs ≡ sum_of f xs +ℚ sum_of g xs
sum_of-plus f g [] = solve [] (con (pos 0)) (con (pos 0) ⊕ con (pos 0)) refl
sum_of-plus f g (x ∷ xs) =
    ap (λ t. f x +ℚ g x +ℚ t) (sum_of-plus f g xs)
    ∙ solve (f x ∷ g x ∷ sum_of f xs ∷ sum_of g xs ∷ []) (var 0 ⊕ var 1 ⊕ (var 2 ⊕ var 3)) (var 0 ⊕ var 2 ⊕ (var 1 ⊕ var 3)) refl

pub sum_of-minus : {A : Type 0} (f g : A → ℚ) (xs : List A) → sum_of (λ x. f x -ℚ g x) xs ≡ sum_of f xs -ℚ sum_of g xs
sum_of-minus f g [] = solve [] (con (pos 0)) (con (pos 0) ⊖ con (pos 0)) refl
sum_of-minus f g (x ∷ xs) =
    ap (λ t. f x -ℚ g x +ℚ t) (sum_of-minus f g xs)
    ∙ solve (f x ∷ g x ∷ sum_of f xs ∷ sum_of g xs ∷ []) (var 0 ⊖ var 1 ⊕ (var 2 ⊖ var 3)) (var 0 ⊕ var 2 ⊖ (var 1 ⊕ var 3)) refl

-- the order of two neighbours is all one
pub sum_of-swap : {A : Type 0} (f : A → ℚ) (x y : A) (xs : List A) → sum_of f (x ∷ (y ∷ xs)) ≡ sum_of f (y ∷ (x ∷ xs))
sum_of-swap f x y xs = solve (f x ∷ f y ∷ sum_of f xs ∷ []) (var 0 ⊕ (var 1 ⊕ var 2)) (var 1 ⊕ (var 0 ⊕ var 2)) refl

sum_of-nothing : {A : Type 0} (xs : List A) → sum_of (λ x. whole (pos 0)) xs ≡ whole (pos 0)
sum_of-nothing [] = refl
sum_of-nothing (x ∷ xs) = ap (λ t. whole (pos 0) +ℚ t) (sum_of-nothing xs) ∙ solve [] (con (pos 0) ⊕ con (pos 0)) (con (pos 0)) refl

-- a sum of sums, by rows or by columns
pub sum_of-exchange : {A B : Type 0} (f : A → B → ℚ) (xs : List A) (ys : List B)
    → sum_of (λ x. sum_of (f x) ys) xs ≡ sum_of (λ y. sum_of (λ x. f x y) xs) ys
sum_of-exchange f [] ys = sym (sum_of-nothing ys)
sum_of-exchange f (x ∷ xs) ys =
    ap (λ t. sum_of (f x) ys +ℚ t) (sum_of-exchange f xs ys) ∙ sym (sum_of-plus (f x) (λ y. sum_of (λ x. f x y) xs) ys)

-- ---- order
pub NotNegative-sum_of : {A : Type 0} (f : A → ℚ) (xs : List A) → All (λ x. NotNegative (f x)) xs → NotNegative (sum_of f xs)
NotNegative-sum_of f [] h = NotNegative-zero
NotNegative-sum_of f (x ∷ xs) h = NotNegative-sum (f x) (sum_of f xs) (All-head (λ x. NotNegative (f x)) x xs h) (NotNegative-sum_of f xs (All-tail (λ x. NotNegative (f x)) x xs h))

pub sum_of-at_most : {A : Type 0} (f g : A → ℚ) (xs : List A) → All (λ x. f x ≤ℚ g x) xs → sum_of f xs ≤ℚ sum_of g xs
sum_of-at_most f g [] h = ≤ℚ_refl (whole (pos 0))
sum_of-at_most f g (x ∷ xs) h = ≤ℚ_sum (f x) (g x) (sum_of f xs) (sum_of g xs) (All-head (λ x. f x ≤ℚ g x) x xs h) (sum_of-at_most f g xs (All-tail (λ x. f x ≤ℚ g x) x xs h))

-- ---- whole numbers
pub whole-whole_sum_of : {A : Type 0} (f : A → ℤ) (xs : List A) → sum_of (λ x. whole (f x)) xs ≡ whole (whole_sum_of f xs)
whole-whole_sum_of f [] = refl
whole-whole_sum_of f (x ∷ xs) = ap (λ t. whole (f x) +ℚ t) (whole-whole_sum_of f xs) ∙ whole-sum (f x) (whole_sum_of f xs)

-- an example of use: a linear combination of the values of a point, and what scaling it gives
abbrev combination : (ℕ → ℚ) → List (ℕ × ℚ) → ℚ
combination v = sum_of (λ e. e.1 *ℚ v e.0)

combination-scale : (v : ℕ → ℚ) (c : ℚ) (es : List (ℕ × ℚ)) → combination v (map (λ e. (e.0, c *ℚ e.1)) es) ≡ c *ℚ combination v es
combination-scale v c es =
    sum_of-map (λ e. e.1 *ℚ v e.0) (λ e. (e.0, c *ℚ e.1)) es
    ∙ sum_of-agree _ (λ e. c *ℚ (e.1 *ℚ v e.0)) es (λ e. solve (c ∷ e.1 ∷ v e.0 ∷ []) (var 0 ⊗ var 1 ⊗ var 2) (var 0 ⊗ (var 1 ⊗ var 2)) refl)
    ∙ sum_of-scale c (λ e. e.1 *ℚ v e.0) es
