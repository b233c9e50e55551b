-- Identities of polynomials over the rationals, in any number of variables: list the values of the variables, write both sides with
-- `var` and `con`, and `refl` between the two normal forms is the proof. Example: `telescope`.
use Rattle.std.proofs.Common.{◌≡◌, ℕ, suc, zero, refl, sym, ap, ap₂, ◌∙◌, List, [], ◌∷◌, Bool, true, false, ltb, eqb}
use Rattle.std.proofs.Common.{eqb-true, cond}
use Rattle.std.proofs.Math.IntN.{ℤ, pos, negsuc, ◌+ℤ◌, ◌*ℤ◌}
use Rattle.lq_base_numbers.specs.Rationals.Rational.{ℚ, whole, ◌+ℚ◌, ◌-ℚ◌, ◌*ℚ◌}
use Rattle.lq_base_numbers.specs.Rationals.RationalRing.{+ℚ_comm, +ℚ_assoc, *ℚ_comm, *ℚ_assoc, *ℚ-+ℚ, *ℚ--ℚ, +ℚ--ℚ, +ℚ_zero, *ℚ_zero, *ℚ_one}
use Rattle.lq_base_numbers.specs.Rationals.Whole.{whole-sum, whole-product, whole-difference}

infixl 6 ◌⊕◌ ◌⊖◌
infixl 7 ◌⊗◌
pub data Term : Type 0 where
  var : ℕ → Term
  con : ℤ → Term
  ◌⊕◌ : Term → Term → Term
  ◌⊖◌ : Term → Term → Term
  ◌⊗◌ : Term → Term → Term

-- the value of a variable: 0 past the list
abbrev pub nth : List ℚ → ℕ → ℚ
nth [] i = whole (pos 0)
nth (x ∷ xs) zero = x
nth (x ∷ xs) (suc i) = nth xs i

abbrev pub value : List ℚ → Term → ℚ
value xs (var i) = nth xs i
value xs (con c) = whole c
value xs (s ⊕ t) = value xs s +ℚ value xs t
value xs (s ⊖ t) = value xs s -ℚ value xs t
value xs (s ⊗ t) = value xs s *ℚ value xs t

-- ---- normal forms: monomials in order, each with its coefficient
abbrev pub Monomial : Type 0
Monomial = List ℕ

abbrev pub Form : Type 0
Form = List (Monomial × ℤ)

abbrev pub monomial : List ℚ → Monomial → ℚ
monomial xs [] = whole (pos 1)
monomial xs (i ∷ m) = nth xs i *ℚ monomial xs m

abbrev pub form_value : List ℚ → Form → ℚ
form_value xs [] = whole (pos 0)
form_value xs (t ∷ p) = whole t.1 *ℚ monomial xs t.0 +ℚ form_value xs p

abbrev pub insert : ℕ → Monomial → Monomial
insert i [] = i ∷ []
insert i (j ∷ m) = cond (ltb i j) (i ∷ (j ∷ m)) (j ∷ insert i m)

abbrev pub merge : Monomial → Monomial → Monomial
merge [] n = n
merge (i ∷ m) n = insert i (merge m n)

abbrev pub same : Monomial → Monomial → Bool
same [] [] = true
same [] (j ∷ n) = false
same (i ∷ m) [] = false
same (i ∷ m) (j ∷ n) = cond (eqb i j) (same m n) false

abbrev pub before : Monomial → Monomial → Bool
before [] n = true
before (i ∷ m) [] = false
before (i ∷ m) (j ∷ n) = cond (eqb i j) (before m n) (ltb i j)

abbrev pub is_zero : ℤ → Bool
is_zero (pos zero) = true
is_zero (pos (suc n)) = false
is_zero (negsuc n) = false

abbrev pub put : Monomial → ℤ → Form → Form
put m c [] = cond (is_zero c) [] ((m, c) ∷ [])
put m c (t ∷ p) =
    cond (same m t.0) (cond (is_zero (c +ℤ t.1)) p ((m, c +ℤ t.1) ∷ p))
    (cond (before m t.0) (cond (is_zero c) (t ∷ p) ((m, c) ∷ (t ∷ p))) (t ∷ put m c p))

abbrev pub add : Form → Form → Form
add [] q = q
add (t ∷ p) q = put t.0 t.1 (add p q)

abbrev pub scale : Monomial → ℤ → Form → Form
scale m c [] = []
scale m c (t ∷ p) = put (merge m t.0) (c *ℤ t.1) (scale m c p)

abbrev pub multiply : Form → Form → Form
multiply [] q = []
multiply (t ∷ p) q = add (scale t.0 t.1 q) (multiply p q)

abbrev pub normal : Term → Form
normal (var i) = (i ∷ [], pos 1) ∷ []
normal (con c) = put [] c []
normal (s ⊕ t) = add (normal s) (normal t)
normal (s ⊖ t) = add (normal s) (scale [] (negsuc 0) (normal t))
normal (s ⊗ t) = multiply (normal s) (normal t)

-- ---- laws
zero_sum : (x : ℚ) → whole (pos 0) +ℚ x ≡ x
zero_sum x = +ℚ_comm (whole (pos 0)) x ∙ +ℚ_zero x

zero_product : (x : ℚ) → whole (pos 0) *ℚ x ≡ whole (pos 0)
zero_product x = *ℚ_comm (whole (pos 0)) x ∙ *ℚ_zero x

one_product : (x : ℚ) → whole (pos 1) *ℚ x ≡ x
one_product x = *ℚ_comm (whole (pos 1)) x ∙ *ℚ_one x

left_comm : (a b p : ℚ) → a +ℚ (b +ℚ p) ≡ b +ℚ (a +ℚ p)
left_comm a b p = sym (+ℚ_assoc a b p) ∙ ap (λ x. x +ℚ p) (+ℚ_comm a b) ∙ +ℚ_assoc b a p

times_left_comm : (a b p : ℚ) → a *ℚ (b *ℚ p) ≡ b *ℚ (a *ℚ p)
times_left_comm a b p = sym (*ℚ_assoc a b p) ∙ ap (λ x. x *ℚ p) (*ℚ_comm a b) ∙ *ℚ_assoc b a p

right_distrib : (a b m : ℚ) → (a +ℚ b) *ℚ m ≡ a *ℚ m +ℚ b *ℚ m
right_distrib a b m = *ℚ_comm (a +ℚ b) m ∙ *ℚ-+ℚ m a b ∙ ap₂ (λ x y. x +ℚ y) (*ℚ_comm m a) (*ℚ_comm m b)

swap_products : (a b c d : ℚ) → (a *ℚ b) *ℚ (c *ℚ d) ≡ (a *ℚ c) *ℚ (b *ℚ d)
swap_products a b c d = *ℚ_assoc a b (c *ℚ d) ∙ ap (λ x. a *ℚ x) (times_left_comm b c d) ∙ sym (*ℚ_assoc a c (b *ℚ d))

minus_one : (x y : ℚ) → x -ℚ y ≡ x +ℚ whole (negsuc 0) *ℚ y
minus_one x y =
    ap (λ t. x -ℚ t) (sym (one_product y)) ∙ ap (λ t. t -ℚ whole (pos 1) *ℚ y) (sym (+ℚ_zero x))
    ∙ sym (+ℚ--ℚ x (whole (pos 0)) (whole (pos 1) *ℚ y))
    ∙ ap (λ t. x +ℚ t) (ap (λ t. t -ℚ whole (pos 1) *ℚ y) (sym (zero_product y)) ∙ sym (from_right (whole (pos 0)) (whole (pos 1)) y) ∙ ap (λ t. t *ℚ y) (whole-difference (pos 0) (pos 1)))
  where
    from_right : (a b m : ℚ) → (a -ℚ b) *ℚ m ≡ a *ℚ m -ℚ b *ℚ m
    from_right a b m = *ℚ_comm (a -ℚ b) m ∙ *ℚ--ℚ m a b ∙ ap₂ (λ x y. x -ℚ y) (*ℚ_comm m a) (*ℚ_comm m b)

-- ---- each step keeps the value
insert_step : (xs : List ℚ) (i j : ℕ) (m : Monomial) → monomial xs (insert i m) ≡ nth xs i *ℚ monomial xs m
    → (b : Bool) → monomial xs (cond b (i ∷ (j ∷ m)) (j ∷ insert i m)) ≡ nth xs i *ℚ (nth xs j *ℚ monomial xs m)
insert_step xs i j m rest true = refl
insert_step xs i j m rest false = ap (λ x. nth xs j *ℚ x) rest ∙ times_left_comm (nth xs j) (nth xs i) (monomial xs m)

insert_is : (xs : List ℚ) (i : ℕ) (m : Monomial) → monomial xs (insert i m) ≡ nth xs i *ℚ monomial xs m
insert_is xs i [] = refl
insert_is xs i (j ∷ m) = insert_step xs i j m (insert_is xs i m) (ltb i j)

merge_is : (xs : List ℚ) (m n : Monomial) → monomial xs (merge m n) ≡ monomial xs m *ℚ monomial xs n
merge_is xs [] n = sym (one_product (monomial xs n))
merge_is xs (i ∷ m) n = insert_is xs i (merge m n) ∙ ap (λ x. nth xs i *ℚ x) (merge_is xs m n) ∙ sym (*ℚ_assoc (nth xs i) (monomial xs m) (monomial xs n))

same_step : (i j : ℕ) (m n : Monomial) → (same m n ≡ true → m ≡ n) → (b : Bool) → eqb i j ≡ b → cond b (same m n) false ≡ true → i ∷ m ≡ j ∷ n
same_step i j m n rest true e h = ap₂ (λ x y. x ∷ y) (eqb-true i j e) (rest h)
same_step i j m n rest false e h = cc

same_is : (m n : Monomial) → same m n ≡ true → m ≡ n
same_is [] [] h = refl
same_is [] (j ∷ n) h = cc
same_is (i ∷ m) [] h = cc
same_is (i ∷ m) (j ∷ n) h = same_step i j m n (same_is m n) (eqb i j) refl h

is_zero_is : (c : ℤ) → is_zero c ≡ true → c ≡ pos 0
is_zero_is (pos zero) h = refl
is_zero_is (pos (suc n)) h = cc
is_zero_is (negsuc n) h = cc

-- a term whose coefficient is 0 may be left out
drop_zero : (xs : List ℚ) (m : Monomial) (c : ℤ) (p : Form) (b : Bool) → is_zero c ≡ b
    → form_value xs (cond b p ((m, c) ∷ p)) ≡ whole c *ℚ monomial xs m +ℚ form_value xs p
drop_zero xs m c p true h =
    sym (ap (λ t. whole t *ℚ monomial xs m +ℚ form_value xs p) (is_zero_is c h) ∙ ap (λ t. t +ℚ form_value xs p) (zero_product (monomial xs m)) ∙ zero_sum (form_value xs p))
drop_zero xs m c p false h = refl

put_order : (xs : List ℚ) (m : Monomial) (c : ℤ) (t : Monomial × ℤ) (p : Form) → form_value xs (put m c p) ≡ whole c *ℚ monomial xs m +ℚ form_value xs p
    → (b : Bool) → form_value xs (cond b (cond (is_zero c) (t ∷ p) ((m, c) ∷ (t ∷ p))) (t ∷ put m c p)) ≡ whole c *ℚ monomial xs m +ℚ form_value xs (t ∷ p)
put_order xs m c t p rest true = drop_zero xs m c (t ∷ p) (is_zero c) refl
put_order xs m c t p rest false = ap (λ x. whole t.1 *ℚ monomial xs t.0 +ℚ x) rest ∙ left_comm (whole t.1 *ℚ monomial xs t.0) (whole c *ℚ monomial xs m) (form_value xs p)

put_same : (xs : List ℚ) (m : Monomial) (c : ℤ) (t : Monomial × ℤ) (p : Form) → form_value xs (put m c p) ≡ whole c *ℚ monomial xs m +ℚ form_value xs p
    → (b : Bool) → same m t.0 ≡ b
    → form_value xs (cond b (cond (is_zero (c +ℤ t.1)) p ((m, c +ℤ t.1) ∷ p)) (cond (before m t.0) (cond (is_zero c) (t ∷ p) ((m, c) ∷ (t ∷ p))) (t ∷ put m c p)))
    ≡ whole c *ℚ monomial xs m +ℚ form_value xs (t ∷ p)
put_same xs m c t p rest true h =
    drop_zero xs m (c +ℤ t.1) p (is_zero (c +ℤ t.1)) refl
    ∙ ap (λ x. x *ℚ monomial xs m +ℚ form_value xs p) (sym (whole-sum c t.1))
    ∙ ap (λ x. x +ℚ form_value xs p) (right_distrib (whole c) (whole t.1) (monomial xs m))
    ∙ +ℚ_assoc (whole c *ℚ monomial xs m) (whole t.1 *ℚ monomial xs m) (form_value xs p)
    ∙ ap (λ n. whole c *ℚ monomial xs m +ℚ (whole t.1 *ℚ monomial xs n +ℚ form_value xs p)) (same_is m t.0 h)
put_same xs m c t p rest false h = put_order xs m c t p rest (before m t.0)

put_is : (xs : List ℚ) (m : Monomial) (c : ℤ) (p : Form) → form_value xs (put m c p) ≡ whole c *ℚ monomial xs m +ℚ form_value xs p
put_is xs m c [] = drop_zero xs m c [] (is_zero c) refl
put_is xs m c (t ∷ p) = put_same xs m c t p (put_is xs m c p) (same m t.0) refl

add_is : (xs : List ℚ) (p q : Form) → form_value xs (add p q) ≡ form_value xs p +ℚ form_value xs q
add_is xs [] q = sym (zero_sum (form_value xs q))
add_is xs (t ∷ p) q =
    put_is xs t.0 t.1 (add p q) ∙ ap (λ x. whole t.1 *ℚ monomial xs t.0 +ℚ x) (add_is xs p q)
    ∙ sym (+ℚ_assoc (whole t.1 *ℚ monomial xs t.0) (form_value xs p) (form_value xs q))

scale_is : (xs : List ℚ) (m : Monomial) (c : ℤ) (p : Form) → form_value xs (scale m c p) ≡ (whole c *ℚ monomial xs m) *ℚ form_value xs p
scale_is xs m c [] = sym (*ℚ_zero (whole c *ℚ monomial xs m))
scale_is xs m c (t ∷ p) =
    put_is xs (merge m t.0) (c *ℤ t.1) (scale m c p)
    ∙ ap₂ (λ x y. x +ℚ y)
    (ap₂ (λ x y. x *ℚ y) (sym (whole-product c t.1)) (merge_is xs m t.0) ∙ swap_products (whole c) (whole t.1) (monomial xs m) (monomial xs t.0))
    (scale_is xs m c p)
    ∙ sym (*ℚ-+ℚ (whole c *ℚ monomial xs m) (whole t.1 *ℚ monomial xs t.0) (form_value xs p))

multiply_is : (xs : List ℚ) (p q : Form) → form_value xs (multiply p q) ≡ form_value xs p *ℚ form_value xs q
multiply_is xs [] q = sym (zero_product (form_value xs q))
multiply_is xs (t ∷ p) q =
    add_is xs (scale t.0 t.1 q) (multiply p q)
    ∙ ap₂ (λ x y. x +ℚ y) (scale_is xs t.0 t.1 q) (multiply_is xs p q)
    ∙ sym (right_distrib (whole t.1 *ℚ monomial xs t.0) (form_value xs p) (form_value xs q))

normal_is : (xs : List ℚ) (t : Term) → form_value xs (normal t) ≡ value xs t
normal_is xs (var i) = +ℚ_zero (whole (pos 1) *ℚ (nth xs i *ℚ whole (pos 1))) ∙ one_product (nth xs i *ℚ whole (pos 1)) ∙ *ℚ_one (nth xs i)
normal_is xs (con c) = put_is xs [] c [] ∙ +ℚ_zero (whole c *ℚ whole (pos 1)) ∙ *ℚ_one (whole c)
normal_is xs (s ⊕ t) = add_is xs (normal s) (normal t) ∙ ap₂ (λ x y. x +ℚ y) (normal_is xs s) (normal_is xs t)
normal_is xs (s ⊖ t) =
    add_is xs (normal s) (scale [] (negsuc 0) (normal t))
    ∙ ap₂ (λ x y. x +ℚ y) (normal_is xs s) (scale_is xs [] (negsuc 0) (normal t) ∙ ap₂ (λ x y. x *ℚ y) (*ℚ_one (whole (negsuc 0))) (normal_is xs t))
    ∙ sym (minus_one (value xs s) (value xs t))
normal_is xs (s ⊗ t) = multiply_is xs (normal s) (normal t) ∙ ap₂ (λ x y. x *ℚ y) (normal_is xs s) (normal_is xs t)

-- equal normal forms, equal values: the last argument is `refl`
pub solve : (xs : List ℚ) (s t : Term) → normal s ≡ normal t → value xs s ≡ value xs t
solve xs s t e = sym (normal_is xs s) ∙ ap (form_value xs) e ∙ normal_is xs t

-- an example of use
telescope : (a b c d e : ℚ) → ((a -ℚ b) +ℚ d) +ℚ ((b -ℚ c) +ℚ e) ≡ (a -ℚ c) +ℚ (d +ℚ e)
telescope a b c d e =
    let x = var 0 in let y = var 1 in let z = var 2 in let u = var 3 in let w = var 4 in
    solve (a ∷ b ∷ c ∷ d ∷ e ∷ []) (x ⊖ y ⊕ u ⊕ (y ⊖ z ⊕ w)) (x ⊖ z ⊕ (u ⊕ w)) refl
