-- What rows say at a point, by a valuation that gives each numbered term its number there.
use Rattle.std.specs.Prelude.{◌≡◌, ◌⊎◌, ℕ, pos, Bool, List, Option, Some, None, ◌==◌, slice_get}
use Rattle.lq_base_numbers.specs.Rationals.Rational.{ℚ, whole as rational}
use Rattle.lq_logic_rows.specs.Row.{Row, Valuation, RowHolds}
use Rattle.lq_logic_predicates.specs.declared.symbol.Symbol.{Symbol}
use Rattle.lq_logic_predicates.specs.Sum.{Sum}
use Rattle.lq_logic_predicates.specs.Table.{index_of}
use Rattle.lq_logic_predicates.specs.Reading.{Reading, yes, no, row, flag_is, objects_are, all_of, any_of, Readings, none, more}
use Rattle.lq_logic_predicates.specs.Points.{Point}

-- the valuation gives each term of the list its number at the point
abbrev pub AgreesOn : List Sum → Valuation → Point → Type 0
AgreesOn terms v p = (k : ℕ) (t : Sum) → slice_get terms k ≡ Some t → v k ≡ p.number t

abbrev pub number_or_zero : Point → Option Sum → ℚ
number_or_zero p None = rational (pos 0)
number_or_zero p (Some t) = p.number t

-- the numbers of a point by the terms' places in the list, and 0 past it
abbrev pub numbers_at : List Sum → Point → Valuation
numbers_at terms p k = number_or_zero p (slice_get terms k)

-- the point whose numbers stand at the terms' places in the list
abbrev pub point_by : List Sum → Valuation → (Symbol → Bool) → (Sum → ℕ) → Point
point_by terms v holds class_of = record { number = λ t. v (index_of terms t); holds = holds; class_of = class_of }

-- a reading of rows is met: its rows by the valuation, its flags and objects by the point
abbrev mutual
  pub MeetsRows : Valuation → Point → Reading Row → Type 0
  MeetsRows v p yes = Unit {0}
  MeetsRows v p no = ⊥
  MeetsRows v p (row r) = RowHolds v r
  MeetsRows v p (flag_is x sign) = p.holds x ≡ sign
  MeetsRows v p (objects_are a b sign) = (p.class_of a == p.class_of b) ≡ sign
  MeetsRows v p (all_of rs) = MeetsAllRows v p rs
  MeetsRows v p (any_of rs) = MeetsAnyRow v p rs

  pub MeetsAllRows : Valuation → Point → Readings Row → Type 0
  MeetsAllRows v p none = Unit {0}
  MeetsAllRows v p (more r rs) = MeetsRows v p r × MeetsAllRows v p rs

  pub MeetsAnyRow : Valuation → Point → Readings Row → Type 0
  MeetsAnyRow v p none = ⊥
  MeetsAnyRow v p (more r rs) = MeetsRows v p r ⊎ MeetsAnyRow v p rs
