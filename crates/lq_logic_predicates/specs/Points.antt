-- Points: what they give to terms, and when they meet a reading.
use Rattle.std.specs.Prelude.{◌≡◌, ◌⊎◌, ℕ, ℤ, pos, Bool, Option, Some, None, ◌==◌, MatchBool}
use Rattle.lq_base_numbers.specs.Rationals.Rational.{ℚ, whole as rational, ◌+ℚ◌, ◌-ℚ◌, ◌*ℚ◌}
use Rattle.lq_base_numbers.specs.Rationals.RationalOrder.{◌≤ℚ◌}
use Rattle.lq_logic_predicates.specs.declared.symbol.Symbol.{Symbol}
use Rattle.lq_logic_predicates.specs.Sum.{Sum, whole, var, neg, add, sub, mul, div, rem, len, measure}
use Rattle.lq_logic_predicates.specs.Table.{literal_of}
use Rattle.lq_logic_predicates.specs.Comparison.{Comparison}
use Rattle.lq_logic_predicates.specs.Reading.{Reading, yes, no, row, flag_is, objects_are, all_of, any_of, Readings, none, more}
use Rattle.lq_logic_predicates.specs.Truth.{Meaning, object_of, term_value}

-- a rational for each variable and application of whole numbers, a truth value for each flag, a class for each object
pub record Point : Type 0 where
  pub number : Sum → ℚ
  pub holds : Symbol → Bool
  pub class_of : Sum → ℕ

-- a product's value, from those of its factors where one of them is a literal
abbrev pub scaled_value : Option ℤ → Option ℤ → ℚ → ℚ → ℚ → ℚ
scaled_value (Some n) o left right apart = rational n *ℚ right
scaled_value None (Some n) left right apart = rational n *ℚ left
scaled_value None None left right apart = apart

-- the value of a term's linear form at a point
abbrev pub form_at : Point → Sum → ℚ
form_at p (whole n) = rational n
form_at p (var x) = p.number (var x)
form_at p (neg a) = rational (pos 0) -ℚ form_at p a
form_at p (add a b) = form_at p a +ℚ form_at p b
form_at p (sub a b) = form_at p a -ℚ form_at p b
form_at p (mul a b) = scaled_value (literal_of a) (literal_of b) (form_at p a) (form_at p b) (p.number (mul a b))
form_at p (div a b) = p.number (div a b)
form_at p (rem a b) = p.number (rem a b)
form_at p (len a) = p.number (len a)
form_at p (measure f a) = p.number (measure f a)

-- left - right + added
abbrev pub difference_at : Point → Comparison → ℚ
difference_at p c = form_at p c.left -ℚ form_at p c.right +ℚ rational c.added

abbrev pub ComparisonHolds : Point → Comparison → Type 0
ComparisonHolds p c = MatchBool c.equal (difference_at p c ≡ rational (pos 0)) (difference_at p c ≤ℚ rational (pos 0))

-- a reading holds at a point
abbrev mutual
  pub Meets : Point → Reading Comparison → Type 0
  Meets p yes = Unit {0}
  Meets p no = ⊥
  Meets p (row c) = ComparisonHolds p c
  Meets p (flag_is x sign) = p.holds x ≡ sign
  Meets p (objects_are a b sign) = (p.class_of a == p.class_of b) ≡ sign
  Meets p (all_of rs) = MeetsAll p rs
  Meets p (any_of rs) = MeetsAny p rs

  pub MeetsAll : Point → Readings Comparison → Type 0
  MeetsAll p none = Unit {0}
  MeetsAll p (more r rs) = Meets p r × MeetsAll p rs

  pub MeetsAny : Point → Readings Comparison → Type 0
  MeetsAny p none = ⊥
  MeetsAny p (more r rs) = Meets p r ⊎ MeetsAny p rs

-- the point of whole numbers
abbrev pub point_of : Meaning → Point
point_of m = record { number = λ s. rational (term_value m s); holds = m.holds; class_of = object_of m }
