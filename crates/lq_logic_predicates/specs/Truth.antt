-- The truth of a predicate over whole numbers.
use Rattle.std.specs.Prelude.{ℕ, ℤ, pos, ◌+ℤ◌, ◌-ℤ◌, ◌*ℤ◌, Bool, true, false, not, ◌&&◌, ◌||◌, ◌==◌, IsTrue, if◌then◌else◌, int_div, int_rem}
use Rattle.std.specs.Ordering.{int_eq}
use Rattle.std.specs.Int.Signed.{lt_z}
use Rattle.lq_base_names.specs.declared.name.Name.{Name}
use Rattle.lq_logic_predicates.specs.declared.symbol.Symbol.{Symbol}
use Rattle.lq_base_names.specs.declared.operation.CompareOp.{CompareOp}
use Rattle.lq_base_names.specs.declared.operation.CompareOp.TheVariants as op
use Rattle.lq_logic_predicates.specs.Sum.{Sum, whole, var, neg, add, sub, mul, div, rem, len, measure}
use Rattle.lq_logic_predicates.specs.Formula.{Formula, truth, falsity, flag, compare, objects, negation, conjunction, disjunction, equivalence}

-- whole numbers, truth values and identities of objects for symbols, and of each object a length and a value of each measure
pub record Meaning : Type 0 where
  pub number : Symbol → ℤ
  pub holds : Symbol → Bool
  pub object : Symbol → ℕ
  pub length : ℕ → ℤ
  pub measured : Name → ℕ → ℤ

-- the quotient truncates, the remainder has the dividend's sign, and both are 0 where the divisor is 0
abbrev pub quotient : ℤ → ℤ → ℤ
quotient x y = if int_eq y (pos 0) then pos 0 else int_div x y

abbrev pub remainder : ℤ → ℤ → ℤ
remainder x y = if int_eq y (pos 0) then pos 0 else int_rem x y

-- the object that a variable stands for
abbrev pub object_of : Meaning → Sum → ℕ
object_of m (var x) = m.object x
object_of m _ = 0

abbrev pub term_value : Meaning → Sum → ℤ
term_value m (whole n) = n
term_value m (var x) = m.number x
term_value m (neg a) = pos 0 -ℤ term_value m a
term_value m (add a b) = term_value m a +ℤ term_value m b
term_value m (sub a b) = term_value m a -ℤ term_value m b
term_value m (mul a b) = term_value m a *ℤ term_value m b
term_value m (div a b) = quotient (term_value m a) (term_value m b)
term_value m (rem a b) = remainder (term_value m a) (term_value m b)
term_value m (len a) = m.length (object_of m a)
term_value m (measure f a) = m.measured f (object_of m a)

abbrev pub compares : CompareOp → ℤ → ℤ → Bool
compares op.Eq x y = int_eq x y
compares op.Ne x y = not (int_eq x y)
compares op.Lt x y = lt_z x y
compares op.Le x y = not (lt_z y x)
compares op.Gt x y = lt_z y x
compares op.Ge x y = not (lt_z x y)

abbrev pub same_truth : Bool → Bool → Bool
same_truth true b = b
same_truth false b = not b

abbrev pub truth_of : Meaning → Formula → Bool
truth_of m truth = true
truth_of m falsity = false
truth_of m (flag x) = m.holds x
truth_of m (compare o a b) = compares o (term_value m a) (term_value m b)
truth_of m (objects a b) = object_of m a == object_of m b
truth_of m (negation p) = not (truth_of m p)
truth_of m (conjunction p q) = truth_of m p && truth_of m q
truth_of m (disjunction p q) = truth_of m p || truth_of m q
truth_of m (equivalence p q) = same_truth (truth_of m p) (truth_of m q)

abbrev pub IsTrueIn : Meaning → Formula → Type 0
IsTrueIn m p = IsTrue (truth_of m p)
