-- Sorts, predicates over more of them, and predicates with something put for symbols.
use Rattle.std.proofs.Common.{◌≡◌, inl, inr, ℕ, Bool, true, false, ◌&&◌, ◌||◌, cond, List, [], ◌∷◌, map, refl, sym, subst}
use Rattle.lq_sound_scope.specs.Scopes.Over.{kind_of}
use Rattle.lq_sound_scope.proofs.ScopesLemmas.Symbols.{or_left, or_right, same_is, same_refl}
use Rattle.lq_refined_instances.specs.Scopes.{Scope}
use Rattle.lq_refined_types.specs.Parts.Substitution.{Atom, of_sum, of_formula, Subst, swap, sum_at, flag_at, sum_by, formula_by}
use Rattle.lq_logic_predicates.specs.Formula.{Formula, truth, falsity, flag, compare, objects, negation, conjunction, disjunction, equivalence}
use Rattle.lq_logic_predicates.specs.Sum.{Sum, whole, var, neg, add, sub, mul, div, rem, len, measure, same_symbol}
use Rattle.lq_logic_predicates.specs.declared.symbol.Symbol.{Symbol}
use Rattle.lq_refined_types.specs.Types.Operations.{symbol_of}
use Rattle.lq_refined_types.specs.Types.Refined.{Kind, number, truth_value, object, other}
use Rattle.lq_sound_scope.specs.Sorts.Sorts.{AreWellSorted, HasName, IsAtomOf, IsNumber, IsObject, IsWellSorted, IsWithin, ScopeStands, Sorts, StandsAt, is_one, scope_sorts, with_kind}

-- ---- kinds

pub kind_is : (k j : Kind) → is_one k j ≡ true → k ≡ j
kind_is number number h = refl
kind_is number truth_value h = cc
kind_is number object h = cc
kind_is number other h = cc
kind_is truth_value number h = cc
kind_is truth_value truth_value h = refl
kind_is truth_value object h = cc
kind_is truth_value other h = cc
kind_is object number h = cc
kind_is object truth_value h = cc
kind_is object object h = refl
kind_is object other h = cc
kind_is other j h = cc

-- ---- sorts

either : (a b c : Bool) (A : Type 0) → (a || (b && c)) ≡ true → (a ≡ true → A) → (b ≡ true → c ≡ true → A) → A
either true b c A h f g = f refl
either false true true A h f g = g refl refl
either false true false A h f g = cc
either false false c A h f g = cc

-- a symbol of one more sort is an old one, or the new one
pub one_cases : (N : Sorts) (k j : Kind) (x y : Symbol) (A : Type 0) → with_kind N k x j y ≡ true → (N j y ≡ true → A) → (k ≡ j → x ≡ y → A) → A
one_cases N k j x y A h f g = either (N j y) (is_one k j) (same_symbol x y) A h f (λ a b. g (kind_is k j a) (same_is x y b))

pub within_kind : (N : Sorts) (k : Kind) (x : Symbol) → IsWithin N (with_kind N k x)
within_kind N k x j y h = or_left (N j y) (is_one k j && same_symbol x y) h

pub wider_kind : (N M : Sorts) → IsWithin N M → (k : Kind) (x : Symbol) → IsWithin (with_kind N k x) (with_kind M k x)
wider_kind N M w k x j y h = by (N j y) (is_one k j && same_symbol x y) h (w j y)
  where
    by : (a b : Bool) → (a || b) ≡ true → (a ≡ true → M j y ≡ true) → (M j y || b) ≡ true
    by true b e f = or_left (M j y) b (f refl)
    by false b e f = or_right (M j y) b e

-- the new one stands for itself
pub own_stands : (N : Sorts) (k : Kind) (x : Symbol) → StandsAt (with_kind N k x) [] k x
own_stands N number x = or_right (N number x) (same_symbol x x) (same_refl x)
own_stands N truth_value x = or_right (N truth_value x) (same_symbol x x) (same_refl x)
own_stands N object x = or_right (N object x) (same_symbol x x) (same_refl x)
own_stands N other x = tt

pub name_within : (N M : Sorts) → IsWithin N M → (k : Kind) (x : ℕ) → HasName N k x → HasName M k x
name_within N M w k x (inl h) = inl (w k (symbol_of x) h)
name_within N M w k x (inr h) = inr (w other (symbol_of x) h)

pub both_within : (N M L : Sorts) → IsWithin N M → IsWithin M L → IsWithin N L
both_within N M L w v k x h = v k x (w k x h)

-- one more within sorts that have it
pub more_within : (N M : Sorts) → IsWithin N M → (k : Kind) (x : Symbol) → M k x ≡ true → IsWithin (with_kind N k x) M
more_within N M w k x e j y h =
    one_cases N k j x y (M j y ≡ true) h (w j y)
    (λ i f. subst (λ (l : Kind). M l y ≡ true) i (subst (λ (z : Symbol). M k z ≡ true) f e))

-- ---- over more sorts

pub object_within : (N M : Sorts) → IsWithin N M → (t : Sum) → IsObject N t → IsObject M t
object_within N M w (whole n) h = h
object_within N M w (var x) h = w object x h
object_within N M w (neg a) h = h
object_within N M w (add a b) h = h
object_within N M w (sub a b) h = h
object_within N M w (mul a b) h = h
object_within N M w (div a b) h = h
object_within N M w (rem a b) h = h
object_within N M w (len a) h = h
object_within N M w (measure f a) h = h

pub number_within : (N M : Sorts) → IsWithin N M → (t : Sum) → IsNumber N t → IsNumber M t
number_within N M w (whole n) h = tt
number_within N M w (var x) h = w number x h
number_within N M w (neg a) h = number_within N M w a h
number_within N M w (add a b) h = (number_within N M w a h.0, number_within N M w b h.1)
number_within N M w (sub a b) h = (number_within N M w a h.0, number_within N M w b h.1)
number_within N M w (mul a b) h = (number_within N M w a h.0, number_within N M w b h.1)
number_within N M w (div a b) h = (number_within N M w a h.0, number_within N M w b h.1)
number_within N M w (rem a b) h = (number_within N M w a h.0, number_within N M w b h.1)
number_within N M w (len a) h = object_within N M w a h
number_within N M w (measure f a) h = object_within N M w a h

pub formula_within : (N M : Sorts) → IsWithin N M → (p : Formula) → IsWellSorted N p → IsWellSorted M p
formula_within N M w truth h = tt
formula_within N M w falsity h = tt
formula_within N M w (flag x) h = w truth_value x h
formula_within N M w (compare o a b) h = (number_within N M w a h.0, number_within N M w b h.1)
formula_within N M w (objects a b) h = (object_within N M w a h.0, object_within N M w b h.1)
formula_within N M w (negation p) h = formula_within N M w p h
formula_within N M w (conjunction p q) h = (formula_within N M w p h.0, formula_within N M w q h.1)
formula_within N M w (disjunction p q) h = (formula_within N M w p h.0, formula_within N M w q h.1)
formula_within N M w (equivalence p q) h = (formula_within N M w p h.0, formula_within N M w q h.1)

pub each_within : (N M : Sorts) → IsWithin N M → (ps : List Formula) → AreWellSorted N ps → AreWellSorted M ps
each_within N M w [] h = tt
each_within N M w (p ∷ ps) h = (formula_within N M w p h.0, each_within N M w ps h.1)

pub stands_within : (N M : Sorts) → IsWithin N M → (θ : Subst) (k : Kind) (x : Symbol) → StandsAt N θ k x → StandsAt M θ k x
stands_within N M w θ number x h = number_within N M w (sum_at θ x) h
stands_within N M w θ truth_value x h = formula_within N M w (flag_at θ x) h
stands_within N M w θ object x h = object_within N M w (sum_at θ x) h
stands_within N M w θ other x h = tt

pub scope_within : (N M : Sorts) → IsWithin N M → (θ : Subst) (Γ : Scope) → ScopeStands N θ Γ → ScopeStands M θ Γ
scope_within N M w θ [] h = tt
scope_within N M w θ (e ∷ Γ) h = (stands_within N M w θ (kind_of e.1) e.0 h.0, scope_within N M w θ Γ h.1)

pub atom_within : (N M : Sorts) → IsWithin N M → (k : Kind) (a : Atom) → IsAtomOf N k a → IsAtomOf M k a
atom_within N M w number (of_sum t) h = number_within N M w t h
atom_within N M w number (of_formula p) h = h
atom_within N M w truth_value (of_sum t) h = h
atom_within N M w truth_value (of_formula p) h = formula_within N M w p h
atom_within N M w object (of_sum t) h = object_within N M w t h
atom_within N M w object (of_formula p) h = h
atom_within N M w other a h = tt

-- ---- symbols for themselves

pub self_stands : (N : Sorts) (k : Kind) (x : Symbol) → N k x ≡ true → StandsAt N [] k x
self_stands N number x h = h
self_stands N truth_value x h = h
self_stands N object x h = h
self_stands N other x h = tt

-- ---- what is put for symbols

-- what stands for the symbols of the second sorts is of the first ones, at their kinds
abbrev pub Stands : Sorts → Subst → Sorts → Type 0
Stands N θ M = (k : Kind) (x : Symbol) → M k x ≡ true → StandsAt N θ k x

pub stands_more : (N M : Sorts) (θ : Subst) → Stands N θ M → (k : Kind) (x : Symbol) → StandsAt N θ k x → Stands N θ (with_kind M k x)
stands_more N M θ h k x w j y e =
    one_cases M k j x y (StandsAt N θ j y) e (h j y)
    (λ i f. subst (λ (l : Kind). StandsAt N θ l y) i (subst (λ (z : Symbol). StandsAt N θ k z) f w))

pub stands_scope : (N : Sorts) (θ : Subst) (Γ : Scope) → ScopeStands N θ Γ → Stands N θ (scope_sorts Γ)
stands_scope N θ [] h = λ k x e. cc
stands_scope N θ (e ∷ Γ) h = stands_more N (scope_sorts Γ) θ (stands_scope N θ Γ h.1) (kind_of e.1) e.0 h.0

-- the same among more sorts
pub stands_wider : (N L M : Sorts) (θ : Subst) → IsWithin N L → Stands N θ M → Stands L θ M
stands_wider N L M θ w h k x e = stands_within N L w θ k x (h k x e)

-- with one more symbol, which stands for itself
pub stands_kind : (N M : Sorts) (θ : Subst) → Stands N θ M → (k : Kind) (x : Symbol) → StandsAt (with_kind N k x) θ k x
    → Stands (with_kind N k x) θ (with_kind M k x)
stands_kind N M θ h k x w =
    stands_more (with_kind N k x) M θ (stands_wider N (with_kind N k x) M θ (within_kind N k x) h) k x w

module _ (N M : Sorts) (θ : Subst) (h : Stands N θ M) where
  pub object_put : (t : Sum) → IsObject M t → IsObject N (sum_by θ t)
  object_put (whole n) w = w
  object_put (var x) w = h object x w
  object_put (neg a) w = w
  object_put (add a b) w = w
  object_put (sub a b) w = w
  object_put (mul a b) w = w
  object_put (div a b) w = w
  object_put (rem a b) w = w
  object_put (len a) w = w
  object_put (measure f a) w = w

  pub number_put : (t : Sum) → IsNumber M t → IsNumber N (sum_by θ t)
  number_put (whole n) w = tt
  number_put (var x) w = h number x w
  number_put (neg a) w = number_put a w
  number_put (add a b) w = (number_put a w.0, number_put b w.1)
  number_put (sub a b) w = (number_put a w.0, number_put b w.1)
  number_put (mul a b) w = (number_put a w.0, number_put b w.1)
  number_put (div a b) w = (number_put a w.0, number_put b w.1)
  number_put (rem a b) w = (number_put a w.0, number_put b w.1)
  number_put (len a) w = object_put a w
  number_put (measure f a) w = object_put a w

  pub formula_put : (p : Formula) → IsWellSorted M p → IsWellSorted N (formula_by θ p)
  formula_put truth w = tt
  formula_put falsity w = tt
  formula_put (flag x) w = h truth_value x w
  formula_put (compare o a b) w = (number_put a w.0, number_put b w.1)
  formula_put (objects a b) w = (object_put a w.0, object_put b w.1)
  formula_put (negation p) w = formula_put p w
  formula_put (conjunction p q) w = (formula_put p w.0, formula_put q w.1)
  formula_put (disjunction p q) w = (formula_put p w.0, formula_put q w.1)
  formula_put (equivalence p q) w = (formula_put p w.0, formula_put q w.1)

  pub each_put : (ps : List Formula) → AreWellSorted M ps → AreWellSorted N (map (formula_by θ) ps)
  each_put [] w = tt
  each_put (p ∷ ps) w = (formula_put p w.0, each_put ps w.1)

-- ---- one swap before others

-- at its own symbol
pub first_stands : (N : Sorts) (k : Kind) (x : Symbol) (a : Atom) (θ : Subst) → IsAtomOf N k a → StandsAt N (swap x a ∷ θ) k x
first_stands N number x (of_sum t) θ h = subst (λ b. IsNumber N (cond b t (sum_at θ x))) (sym (same_refl x)) h
first_stands N number x (of_formula p) θ h = absurd h
first_stands N truth_value x (of_sum t) θ h = absurd h
first_stands N truth_value x (of_formula p) θ h = subst (λ b. IsWellSorted N (cond b p (flag_at θ x))) (sym (same_refl x)) h
first_stands N object x (of_sum t) θ h = subst (λ b. IsObject N (cond b t (sum_at θ x))) (sym (same_refl x)) h
first_stands N object x (of_formula p) θ h = absurd h
first_stands N other x a θ h = tt

-- at another one
pub later_stands : (N : Sorts) (k : Kind) (y : Symbol) (a : Atom) (θ : Subst) (x : Symbol) → same_symbol y x ≡ false → StandsAt N θ k x
    → StandsAt N (swap y a ∷ θ) k x
later_stands N number y (of_sum t) θ x e h = subst (λ b. IsNumber N (cond b t (sum_at θ x))) (sym e) h
later_stands N number y (of_formula p) θ x e h = h
later_stands N truth_value y (of_sum t) θ x e h = h
later_stands N truth_value y (of_formula p) θ x e h = subst (λ b. IsWellSorted N (cond b p (flag_at θ x))) (sym e) h
later_stands N object y (of_sum t) θ x e h = subst (λ b. IsObject N (cond b t (sum_at θ x))) (sym e) h
later_stands N object y (of_formula p) θ x e h = h
later_stands N other y a θ x e h = tt

-- What is put for a symbol is of each kind that the symbol has.
abbrev pub IsFor : Sorts → Symbol → Atom → Type 0
IsFor N x a = (j : Kind) → N j x ≡ true → IsAtomOf N j a

-- all symbols but one stand for themselves
pub others_stand : (N : Sorts) (x : Symbol) (a : Atom) → IsFor N x a → Stands N (swap x a ∷ []) N
others_stand N x a h j y f = by (same_symbol x y) refl
  where
    by : (b : Bool) → same_symbol x y ≡ b → StandsAt N (swap x a ∷ []) j y
    by true s =
        let is : x ≡ y = same_is x y s in
        subst (λ (z : Symbol). StandsAt N (swap x a ∷ []) j z) is (first_stands N j x a [] (h j (subst (λ (z : Symbol). N j z ≡ true) (sym is) f)))
    by false s = later_stands N j x a [] y s (self_stands N j y f)

-- with something for one more symbol
pub one_stands : (N : Sorts) (k : Kind) (x : Symbol) (a : Atom) → IsFor N x a → IsAtomOf N k a → Stands N (swap x a ∷ []) (with_kind N k x)
one_stands N k x a h o = stands_more N N (swap x a ∷ []) (others_stand N x a h) k x (first_stands N k x a [] o)
