-- The value of a form at a point, as a sum over numbered terms.
use Rattle.std.proofs.Common.{◌≡◌, ℕ, suc, ℤ, pos, List, [], ◌∷◌, Bool, true, false, not, Option, Some, None, slice_get, refl, sym, ap, ap₂, ◌∙◌, if◌then◌else◌, ◌||◌}
use Rattle.std.proofs.Math.IntN.{◌+ℤ◌, ◌-ℤ◌, ◌*ℤ◌}
use Rattle.std.proofs.lemmas.Bool.{and_parts, or_parts, not-true}
use Rattle.lq_base_numbers.specs.Rationals.Rational.{ℚ, whole as rational, ◌+ℚ◌, ◌-ℚ◌, ◌*ℚ◌}
use Rattle.lq_base_numbers.specs.Rationals.Whole.{whole-sum, whole-difference, whole-product}
use Rattle.lq_base_numbers.specs.Rationals.Solver as solver
use Rattle.lq_base_numbers.specs.Rationals.Solver.{con, ◌⊕◌, ◌⊖◌, ◌⊗◌, solve}
use Rattle.lq_base_numbers.specs.Rationals.Sums.{sum_of, sum_of-agree, sum_of-plus, sum_of-minus, sum_of-scale}
use Rattle.lq_logic_predicates.specs.Sum.{Sum, whole, var, neg, add, sub, mul, div, rem, len, measure, same}
use Rattle.lq_logic_predicates.specs.SameLaws.{same-is}
use Rattle.lq_logic_predicates.specs.Table.{has_term, all_differ, with_term, numbered, literal_of, by_factors, Extends}
use Rattle.lq_logic_predicates.specs.LinearForm.{one_at, scaled, coefficient, constant_of}
use Rattle.lq_logic_predicates.specs.Points.{Point, form_at, scaled_value}
use Rattle.lq_logic_predicates.specs.Growing.{Extends-trans}
use Rattle.lq_logic_predicates.specs.Numbering.{has_term-with_term, has_term-append, all_differ-with_term}
use Rattle.lq_logic_predicates.specs.Again.{Extends-numbered}

-- the sum of coefficients times numbers, over the terms of a list
abbrev pub over : Point → (Sum → ℤ) → List Sum → ℚ
over p F ts = sum_of (λ t. rational (F t) *ℚ p.number t) ts

pub over-zero : (p : Point) (F : Sum → ℤ) (ts : List Sum) → ((k : ℕ) (t : Sum) → slice_get ts k ≡ Some t → F t ≡ pos 0) → over p F ts ≡ rational (pos 0)
over-zero p F [] h = refl
over-zero p F (t ∷ ts) h =
    ap₂ (λ n x. rational n *ℚ p.number t +ℚ x) (h 0 t refl) (over-zero p F ts (λ k u e. h (suc k) u e))
    ∙ solve (p.number t ∷ []) (con (pos 0) ⊗ solver.var 0 ⊕ con (pos 0)) (con (pos 0)) refl

pub over-minus : (p : Point) (F G : Sum → ℤ) (ts : List Sum) → over p (λ t. F t -ℤ G t) ts ≡ over p F ts -ℚ over p G ts
over-minus p F G ts =
    sum_of-agree _ (λ t. rational (F t) *ℚ p.number t -ℚ rational (G t) *ℚ p.number t) ts
    (λ t. ap (λ x. x *ℚ p.number t) (sym (whole-difference (F t) (G t)))
    ∙ solve (rational (F t) ∷ rational (G t) ∷ p.number t ∷ []) ((solver.var 0 ⊖ solver.var 1) ⊗ solver.var 2) (solver.var 0 ⊗ solver.var 2 ⊖ solver.var 1 ⊗ solver.var 2) refl)
    ∙ sum_of-minus (λ t. rational (F t) *ℚ p.number t) (λ t. rational (G t) *ℚ p.number t) ts

over-plus : (p : Point) (F G : Sum → ℤ) (ts : List Sum) → over p (λ t. F t +ℤ G t) ts ≡ over p F ts +ℚ over p G ts
over-plus p F G ts =
    sum_of-agree _ (λ t. rational (F t) *ℚ p.number t +ℚ rational (G t) *ℚ p.number t) ts
    (λ t. ap (λ x. x *ℚ p.number t) (sym (whole-sum (F t) (G t)))
    ∙ solve (rational (F t) ∷ rational (G t) ∷ p.number t ∷ []) ((solver.var 0 ⊕ solver.var 1) ⊗ solver.var 2) (solver.var 0 ⊗ solver.var 2 ⊕ solver.var 1 ⊗ solver.var 2) refl)
    ∙ sum_of-plus (λ t. rational (F t) *ℚ p.number t) (λ t. rational (G t) *ℚ p.number t) ts

over-scale : (p : Point) (n : ℤ) (F : Sum → ℤ) (ts : List Sum) → over p (λ t. n *ℤ F t) ts ≡ rational n *ℚ over p F ts
over-scale p n F ts =
    sum_of-agree _ (λ t. rational n *ℚ (rational (F t) *ℚ p.number t)) ts
    (λ t. ap (λ x. x *ℚ p.number t) (sym (whole-product n (F t)))
    ∙ solve (rational n ∷ rational (F t) ∷ p.number t ∷ []) (solver.var 0 ⊗ solver.var 1 ⊗ solver.var 2) (solver.var 0 ⊗ (solver.var 1 ⊗ solver.var 2)) refl)
    ∙ sum_of-scale (rational n) (λ t. rational (F t) *ℚ p.number t) ts

over-negated : (p : Point) (F : Sum → ℤ) (ts : List Sum) → over p (λ t. pos 0 -ℤ F t) ts ≡ rational (pos 0) -ℚ over p F ts
over-negated p F ts =
    over-minus p (λ _. pos 0) F ts ∙ ap (λ x. x -ℚ over p F ts) (over-zero p (λ _. pos 0) ts (λ k t e. refl))

-- of a term that isn't in the list, and of one that is
over-absent : (p : Point) (s : Sum) (ts : List Sum) → has_term ts s ≡ false → over p (one_at s) ts ≡ rational (pos 0)
over-absent p s [] h = refl
over-absent p s (u ∷ ts) h =
    let k = or_parts (same s u) (has_term ts s) h in
    ap₂ (λ b x. rational (if b then pos 1 else pos 0) *ℚ p.number u +ℚ x) k.0 (over-absent p s ts k.1)
    ∙ solve (p.number u ∷ []) (con (pos 0) ⊗ solver.var 0 ⊕ con (pos 0)) (con (pos 0)) refl

over-one : (p : Point) (s : Sum) (ts : List Sum) → all_differ ts ≡ true → has_term ts s ≡ true → over p (one_at s) ts ≡ p.number s
over-one p s [] d h = cc
over-one p s (u ∷ ts) d h = by (over-one p s ts parts.1) (same s u) refl h
  where
    parts : (not (has_term ts u) ≡ true) × (all_differ ts ≡ true)
    parts = and_parts (not (has_term ts u)) (all_differ ts) d

    by : (has_term ts s ≡ true → over p (one_at s) ts ≡ p.number s) → (b : Bool) → same s u ≡ b → (b || has_term ts s) ≡ true
        → (rational (if b then pos 1 else pos 0) *ℚ p.number u +ℚ over p (one_at s) ts) ≡ p.number s
    by rest true e k =
        let one : s ≡ u = same-is s u e in
        let gone : has_term ts s ≡ false = ap (has_term ts) one ∙ not-true (has_term ts u) parts.0 in
        ap₂ (λ x y. rational (pos 1) *ℚ p.number x +ℚ y) (sym one) (over-absent p s ts gone)
        ∙ solve (p.number s ∷ []) (con (pos 1) ⊗ solver.var 0 ⊕ con (pos 0)) (solver.var 0) refl
    by rest false e k =
        ap (λ x. rational (pos 0) *ℚ p.number u +ℚ x) (rest k)
        ∙ solve (p.number u ∷ p.number s ∷ []) (con (pos 0) ⊗ solver.var 0 ⊕ solver.var 1) (solver.var 1) refl

-- by whether one of two factors is a literal
abbrev pub OnLiterals : Option ℤ → Option ℤ → Type 0 → Type 0 → Type 0
OnLiterals (Some n) o P Q = P
OnLiterals None (Some n) P Q = P
OnLiterals None None P Q = Q

-- the variables and applications of a form stand in the list
abbrev pub Stands : List Sum → Sum → Type 0
Stands l (whole n) = Unit {0}
Stands l (var x) = has_term l (var x) ≡ true
Stands l (neg a) = Stands l a
Stands l (add a b) = Stands l a × Stands l b
Stands l (sub a b) = Stands l a × Stands l b
Stands l (mul a b) = OnLiterals (literal_of a) (literal_of b) (Stands l a × Stands l b) (has_term l (mul a b) ≡ true)
Stands l (div a b) = has_term l (div a b) ≡ true
Stands l (rem a b) = has_term l (rem a b) ≡ true
Stands l (len a) = has_term l (len a) ≡ true
Stands l (measure f a) = has_term l (measure f a) ≡ true

there : (terms all : List Sum) (t : Sum) → Extends (with_term terms t) all → has_term all t ≡ true
there terms all t x = ap (λ l. has_term l t) x.is ∙ has_term-append (with_term terms t) x.more t (has_term-with_term terms t)

pub stands_numbered : (terms all : List Sum) (s : Sum) → Extends (numbered terms s) all → Stands all s
stands_numbered terms all (whole n) x = tt
stands_numbered terms all (var y) x = there terms all (var y) x
stands_numbered terms all (neg a) x = stands_numbered terms all a x
stands_numbered terms all (add a b) x =
    (stands_numbered terms all a (Extends-trans _ _ _ (Extends-numbered (numbered terms a) b) x), stands_numbered (numbered terms a) all b x)
stands_numbered terms all (sub a b) x =
    (stands_numbered terms all a (Extends-trans _ _ _ (Extends-numbered (numbered terms a) b) x), stands_numbered (numbered terms a) all b x)
stands_numbered terms all (mul a b) x =
    by (literal_of a) (literal_of b) x
    (λ y. stands_numbered terms all a (Extends-trans _ _ _ (Extends-numbered (numbered terms a) b) y)) (stands_numbered (numbered terms a) all b)
  where
    by : (o p : Option ℤ) → Extends (by_factors o p (numbered (numbered terms a) b) (with_term (numbered (numbered terms a) b) (mul a b))) all
        → (Extends (numbered (numbered terms a) b) all → Stands all a) → (Extends (numbered (numbered terms a) b) all → Stands all b)
        → OnLiterals o p (Stands all a × Stands all b) (has_term all (mul a b) ≡ true)
    by (Some n) p y f g = (f y, g y)
    by None (Some n) y f g = (f y, g y)
    by None None y f g = there (numbered (numbered terms a) b) all (mul a b) y
stands_numbered terms all (div a b) x = there (numbered (numbered terms a) b) all (div a b) x
stands_numbered terms all (rem a b) x = there (numbered (numbered terms a) b) all (rem a b) x
stands_numbered terms all (len a) x = there terms all (len a) x
stands_numbered terms all (measure f a) x = there terms all (measure f a) x

pub all_differ-numbered : (terms : List Sum) (s : Sum) → all_differ terms ≡ true → all_differ (numbered terms s) ≡ true
all_differ-numbered terms (whole n) d = d
all_differ-numbered terms (var x) d = all_differ-with_term terms (var x) d
all_differ-numbered terms (neg a) d = all_differ-numbered terms a d
all_differ-numbered terms (add a b) d = all_differ-numbered (numbered terms a) b (all_differ-numbered terms a d)
all_differ-numbered terms (sub a b) d = all_differ-numbered (numbered terms a) b (all_differ-numbered terms a d)
all_differ-numbered terms (mul a b) d = by (literal_of a) (literal_of b) (all_differ-numbered (numbered terms a) b (all_differ-numbered terms a d))
  where
    by : (o p : Option ℤ) → all_differ (numbered (numbered terms a) b) ≡ true
        → all_differ (by_factors o p (numbered (numbered terms a) b) (with_term (numbered (numbered terms a) b) (mul a b))) ≡ true
    by (Some n) p h = h
    by None (Some n) h = h
    by None None h = all_differ-with_term (numbered (numbered terms a) b) (mul a b) h
all_differ-numbered terms (div a b) d = all_differ-with_term (numbered (numbered terms a) b) (div a b) (all_differ-numbered (numbered terms a) b (all_differ-numbered terms a d))
all_differ-numbered terms (rem a b) d = all_differ-with_term (numbered (numbered terms a) b) (rem a b) (all_differ-numbered (numbered terms a) b (all_differ-numbered terms a d))
all_differ-numbered terms (len a) d = all_differ-with_term terms (len a) d
all_differ-numbered terms (measure f a) d = all_differ-with_term terms (measure f a) d

-- a variable or an application alone
alone : (p : Point) (s : Sum) (ts : List Sum) → all_differ ts ≡ true → has_term ts s ≡ true → p.number s ≡ over p (one_at s) ts +ℚ rational (pos 0)
alone p s ts d h = solve (p.number s ∷ []) (solver.var 0) (solver.var 0 ⊕ con (pos 0)) refl ∙ ap (λ x. x +ℚ rational (pos 0)) (sym (over-one p s ts d h))

scaled_sum : (p : Point) (n k : ℤ) (F : Sum → ℤ) (ts : List Sum) (x : ℚ) → x ≡ over p F ts +ℚ rational k → rational n *ℚ x ≡ over p (λ t. n *ℤ F t) ts +ℚ rational (n *ℤ k)
scaled_sum p n k F ts x e =
    ap (λ y. rational n *ℚ y) e ∙ solve (rational n ∷ over p F ts ∷ rational k ∷ []) (solver.var 0 ⊗ (solver.var 1 ⊕ solver.var 2)) (solver.var 0 ⊗ solver.var 1 ⊕ solver.var 0 ⊗ solver.var 2) refl
    ∙ ap₂ (λ y z. y +ℚ z) (sym (over-scale p n F ts)) (whole-product n k)

pub form_sum : (p : Point) (ts : List Sum) (s : Sum) → all_differ ts ≡ true → Stands ts s → form_at p s ≡ over p (coefficient s) ts +ℚ rational (constant_of s)
form_sum p ts (whole n) d h =
    solve (rational n ∷ []) (solver.var 0) (con (pos 0) ⊕ solver.var 0) refl ∙ ap (λ x. x +ℚ rational n) (sym (over-zero p (λ _. pos 0) ts (λ k t e. refl)))
form_sum p ts (var x) d h = alone p (var x) ts d h
form_sum p ts (neg a) d h =
    ap (λ x. rational (pos 0) -ℚ x) (form_sum p ts a d h)
    ∙ solve (over p (coefficient a) ts ∷ rational (constant_of a) ∷ []) (con (pos 0) ⊖ (solver.var 0 ⊕ solver.var 1)) ((con (pos 0) ⊖ solver.var 0) ⊕ (con (pos 0) ⊖ solver.var 1)) refl
    ∙ ap₂ (λ x y. x +ℚ y) (sym (over-negated p (coefficient a) ts)) (whole-difference (pos 0) (constant_of a))
form_sum p ts (add a b) d h =
    ap₂ (λ x y. x +ℚ y) (form_sum p ts a d h.0) (form_sum p ts b d h.1)
    ∙ solve (over p (coefficient a) ts ∷ rational (constant_of a) ∷ over p (coefficient b) ts ∷ rational (constant_of b) ∷ [])
    ((solver.var 0 ⊕ solver.var 1) ⊕ (solver.var 2 ⊕ solver.var 3)) ((solver.var 0 ⊕ solver.var 2) ⊕ (solver.var 1 ⊕ solver.var 3)) refl
    ∙ ap₂ (λ x y. x +ℚ y) (sym (over-plus p (coefficient a) (coefficient b) ts)) (whole-sum (constant_of a) (constant_of b))
form_sum p ts (sub a b) d h =
    ap₂ (λ x y. x -ℚ y) (form_sum p ts a d h.0) (form_sum p ts b d h.1)
    ∙ solve (over p (coefficient a) ts ∷ rational (constant_of a) ∷ over p (coefficient b) ts ∷ rational (constant_of b) ∷ [])
    ((solver.var 0 ⊕ solver.var 1) ⊖ (solver.var 2 ⊕ solver.var 3)) ((solver.var 0 ⊖ solver.var 2) ⊕ (solver.var 1 ⊖ solver.var 3)) refl
    ∙ ap₂ (λ x y. x +ℚ y) (sym (over-minus p (coefficient a) (coefficient b) ts)) (whole-difference (constant_of a) (constant_of b))
form_sum p ts (mul a b) d h = by (literal_of a) (literal_of b) h (form_sum p ts a d) (form_sum p ts b d)
  where
    by : (o q : Option ℤ) → OnLiterals o q (Stands ts a × Stands ts b) (has_term ts (mul a b) ≡ true)
        → (Stands ts a → form_at p a ≡ over p (coefficient a) ts +ℚ rational (constant_of a)) → (Stands ts b → form_at p b ≡ over p (coefficient b) ts +ℚ rational (constant_of b))
        → scaled_value o q (form_at p a) (form_at p b) (p.number (mul a b))
        ≡ over p (λ t. scaled o q (coefficient a t) (coefficient b t) (one_at (mul a b) t)) ts +ℚ rational (scaled o q (constant_of a) (constant_of b) (pos 0))
    by (Some n) q k f g = scaled_sum p n (constant_of b) (coefficient b) ts (form_at p b) (g k.1)
    by None (Some n) k f g = scaled_sum p n (constant_of a) (coefficient a) ts (form_at p a) (f k.0)
    by None None k f g = alone p (mul a b) ts d k
form_sum p ts (div a b) d h = alone p (div a b) ts d h
form_sum p ts (rem a b) d h = alone p (rem a b) ts d h
form_sum p ts (len a) d h = alone p (len a) ts d h
form_sum p ts (measure f a) d h = alone p (measure f a) ts d h
