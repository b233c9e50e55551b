-- The linear form of a term: a coefficient for each variable and each application, and a constant.
use Rattle.std.specs.Prelude.{ℤ, pos, ◌+ℤ◌, ◌-ℤ◌, ◌*ℤ◌, Option, Some, None, if◌then◌else◌, FitsSigned}
use Rattle.std.specs.Int.{w128}
use Rattle.lq_logic_predicates.specs.Sum.{Sum, whole, var, neg, add, sub, mul, div, rem, len, measure, same}
use Rattle.lq_logic_predicates.specs.Table.{literal_of}

-- 1 at the term itself, and 0 elsewhere
abbrev pub one_at : Sum → Sum → ℤ
one_at s t = if same s t then pos 1 else pos 0

-- a product's part, from those of its factors where one of them is a literal
abbrev pub scaled : Option ℤ → Option ℤ → ℤ → ℤ → ℤ → ℤ
scaled (Some n) o left right apart = n *ℤ right
scaled None (Some n) left right apart = n *ℤ left
scaled None None left right apart = apart

-- the coefficient of the term t in the form of a sum
abbrev pub coefficient : Sum → Sum → ℤ
coefficient (whole n) t = pos 0
coefficient (var x) t = one_at (var x) t
coefficient (neg a) t = pos 0 -ℤ coefficient a t
coefficient (add a b) t = coefficient a t +ℤ coefficient b t
coefficient (sub a b) t = coefficient a t -ℤ coefficient b t
coefficient (mul a b) t = scaled (literal_of a) (literal_of b) (coefficient a t) (coefficient b t) (one_at (mul a b) t)
coefficient (div a b) t = one_at (div a b) t
coefficient (rem a b) t = one_at (rem a b) t
coefficient (len a) t = one_at (len a) t
coefficient (measure f a) t = one_at (measure f a) t

-- the constant of the form of a sum
abbrev pub constant_of : Sum → ℤ
constant_of (whole n) = n
constant_of (var x) = pos 0
constant_of (neg a) = pos 0 -ℤ constant_of a
constant_of (add a b) = constant_of a +ℤ constant_of b
constant_of (sub a b) = constant_of a -ℤ constant_of b
constant_of (mul a b) = scaled (literal_of a) (literal_of b) (constant_of a) (constant_of b) (pos 0)
constant_of (div a b) = pos 0
constant_of (rem a b) = pos 0
constant_of (len a) = pos 0
constant_of (measure f a) = pos 0

-- every coefficient and the constant of the form are within 128 bits
pub record HasFit (s : Sum) : Type 0 where
  pub constant : FitsSigned w128 (constant_of s)
  pub coefficients : (t : Sum) → FitsSigned w128 (coefficient s t)

-- both factors where one of them is a literal
abbrev pub OnFactors : Option ℤ → Option ℤ → Type 0 → Type 0
OnFactors (Some n) o P = P
OnFactors None (Some n) P = P
OnFactors None None P = Unit {0}

-- The form of the sum and that of every operand that belongs to it fit. What stands inside an application doesn't belong
-- to the form.
abbrev pub IsFit : Sum → Type 0
IsFit (whole n) = FitsSigned w128 n
IsFit (var x) = Unit {0}
IsFit (neg a) = IsFit a × HasFit (neg a)
IsFit (add a b) = IsFit a × IsFit b × HasFit (add a b)
IsFit (sub a b) = IsFit a × IsFit b × HasFit (sub a b)
IsFit (mul a b) = OnFactors (literal_of a) (literal_of b) (IsFit a × IsFit b × HasFit (mul a b))
IsFit (div a b) = Unit {0}
IsFit (rem a b) = Unit {0}
IsFit (len a) = Unit {0}
IsFit (measure f a) = Unit {0}
