-- Numbered terms: a list in which a term's number is its index.
use Rattle.std.specs.Prelude.{◌≡◌, ℕ, suc, ℤ, Bool, true, ◌&&◌, not, List, [], ◌∷◌, ◌++◌, Option, Some, None, if◌then◌else◌}
use Rattle.std.specs.List.{list_any}
use Rattle.lq_logic_predicates.specs.Sum.{Sum, whole, var, neg, add, sub, mul, div, rem, len, measure, same}

-- whether the term is in the list
abbrev pub has_term : List Sum → Sum → Bool
has_term terms t = list_any (same t) terms

-- the index of a term, and the length of the list where it isn't there
abbrev pub index_of : List Sum → Sum → ℕ
index_of [] t = 0
index_of (u ∷ terms) t = if same t u then 0 else suc (index_of terms t)

-- whether no term stands twice
abbrev pub all_differ : List Sum → Bool
all_differ [] = true
all_differ (t ∷ terms) = not (has_term terms t) && all_differ terms

-- the list with the term at its end, unless it is there
abbrev pub with_term : List Sum → Sum → List Sum
with_term terms t = if has_term terms t then terms else terms ++ t ∷ []

-- the number that a literal is
abbrev pub literal_of : Sum → Option ℤ
literal_of (whole n) = Some n
literal_of (var x) = None
literal_of (neg a) = None
literal_of (add a b) = None
literal_of (sub a b) = None
literal_of (mul a b) = None
literal_of (div a b) = None
literal_of (rem a b) = None
literal_of (len a) = None
literal_of (measure f a) = None

-- by whether one of two factors is a literal
abbrev pub by_factors : {X : Type 0} → Option ℤ → Option ℤ → X → X → X
by_factors (Some n) o linear apart = linear
by_factors None (Some n) linear apart = linear
by_factors None None linear apart = apart

-- The list with every term of `t` that a table numbers, in the order of their first appearance: variables and
-- applications, an inner one before the outer. No literal, sum, difference, negation or product with a literal
-- has a number. The argument of a length or of a measure is an object, and has none.
abbrev pub numbered : List Sum → Sum → List Sum
numbered terms (whole n) = terms
numbered terms (var x) = with_term terms (var x)
numbered terms (neg a) = numbered terms a
numbered terms (add a b) = numbered (numbered terms a) b
numbered terms (sub a b) = numbered (numbered terms a) b
numbered terms (mul a b) =
    by_factors (literal_of a) (literal_of b) (numbered (numbered terms a) b) (with_term (numbered (numbered terms a) b) (mul a b))
numbered terms (div a b) = with_term (numbered (numbered terms a) b) (div a b)
numbered terms (rem a b) = with_term (numbered (numbered terms a) b) (rem a b)
numbered terms (len a) = with_term terms (len a)
numbered terms (measure f a) = with_term terms (measure f a)

-- the new list is the old one with possibly more terms after it
pub record Extends (old new : List Sum) : Type 0 where
  pub more : List Sum
  pub is : new ≡ old ++ more
