-- The operations on fractions by which rows are read and lines and values change, each with its operands.
use Rattle.std.specs.Prelude.{◌≡◌, ◌≢◌, ℕ, ℤ, pos, ◌<◌, ◌⊎◌, neg_ℤ, List, [], Option, Some, length, take, slice_get}
use Rattle.lq_base_numbers.specs.Rationals.Rational.{ℚ, whole, ◌-ℚ◌, ◌*ℚ◌, neg_ℚ}
use Rattle.lq_base_numbers.specs.Rationals.RationalQuotient.{◌/ℚ◌}
use Rattle.lq_base_numbers.specs.Fractions.Past.{IsPast}
use Rattle.lq_base_numbers.specs.Fractions.Value.{value_of}
use Rattle.lq_base_numbers.specs.declared.fractions.frac.Frac.{Frac}
use Rattle.lq_base_numbers.specs.declared.fractions.past.NumberPast.{NumberPast}
use Rattle.lq_base_numbers.specs.declared.fractions.past.NumOp.{NumOp}
use Rattle.lq_base_numbers.specs.declared.fractions.past.NumOp.TheVariants.{Add, Sub, Mul, Div, Neg}
use Rattle.lq_logic_rows.specs.Difference.{TermsBelow}
use Rattle.lq_logic_rows.specs.Forms.{Parts, DividesAll, IsNormal, AreMultiples}
use Rattle.lq_logic_rows.specs.Row.{Row, Valuation, sum_at}
use Rattle.lq_logic_rows.specs.Steps.{valuation_of}
use Rattle.lq_prover_simplex.specs.declared.error.TableauError.{TableauError}
use Rattle.lq_prover_simplex.specs.declared.error.TableauError.TheVariants.{Past, Spent, Memory}
use Rattle.lq_prover_simplex.specs.declared.line.Entry.{Entry}
use Rattle.lq_prover_simplex.specs.declared.row.Bound.{Bound}
use Rattle.lq_prover_simplex.specs.declared.row.Standing.{Standing}
use Rattle.lq_prover_simplex.specs.Lines.{combine, factor_of, IsLine}
use Rattle.lq_prover_simplex.specs.RowParts.{IsGreatest}
use Rattle.lq_prover_simplex.specs.Systems.{System, line_at, IsSystem}
use Rattle.lq_prover_simplex.specs.Appearing.{IsFurther}

-- one of these operations, with its operands, has no result within 128 bits
abbrev pub IsPastIn : (NumOp → ℚ → ℚ → Type 0) → NumberPast → Type 0
IsPastIn Is e = IsPast e × Is e.op (value_of e.left) (value_of e.right)

-- one of these operations, or want of memory
abbrev pub StopsIn : (NumOp → ℚ → ℚ → Type 0) → TableauError → Type 0
StopsIn Is (Past e) = IsPastIn Is e
StopsIn Is Spent = ⊥
StopsIn Is Memory = Unit {0}

-- ---- lines

-- a factor, and so many times another
pub data IsJoining (left : Option Frac) (times : ℚ) (right : Option Frac) : NumOp → ℚ → ℚ → Type 0 where
  product : (f : Frac) → right ≡ Some f → IsJoining left times right Mul times (value_of f)
  sum : (d f : Frac) → left ≡ Some d → right ≡ Some f → IsJoining left times right Add (value_of d) (times *ℚ value_of f)

-- a line, and so many times another, member by member
pub data IsLineSum (left : List Entry) (times : ℚ) (right : List Entry) : NumOp → ℚ → ℚ → Type 0 where
  product : (k : ℕ) (f : Entry) → slice_get right k ≡ Some f → IsLineSum left times right Mul times (value_of f.factor)
  sum : (i k : ℕ) (d f : Entry) → slice_get left i ≡ Some d → slice_get right k ≡ Some f → d.variable ≡ f.variable
      → IsLineSum left times right Add (value_of d.factor) (times *ℚ value_of f.factor)

-- ---- forms

-- the parts of a form at these values: each member, and the sum of the members before it with it
pub data IsSummed (v : Valuation) (parts : Parts) : NumOp → ℚ → ℚ → Type 0 where
  product : (i term : ℕ) (coefficient : ℤ) → slice_get parts i ≡ Some (term, coefficient) → IsSummed v parts Mul (whole coefficient) (v term)
  sum : (i term : ℕ) (coefficient : ℤ) → slice_get parts i ≡ Some (term, coefficient)
      → IsSummed v parts Add (sum_at v (take i parts)) (whole coefficient *ℚ v term)

-- the factors of a form's terms at a variable that stands in one of the lines
pub record IsLining (lines : List (List Entry)) (parts : Parts) (op : NumOp) (x y : ℚ) : Type 0 where
  pub variable : ℕ
  pub line : ℕ
  pub some : ¬ (factor_of (line_at lines line) variable ≡ whole (pos 0))
  pub sums : IsSummed (λ t. factor_of (line_at lines t) variable) parts op x y

-- a form's line, or its value
pub data IsFormed (s : System) (form : Parts) (op : NumOp) (x y : ℚ) : Type 0 where
  of_line : IsLining s.lines form op x y → IsFormed s form op x y
  of_value : IsSummed (valuation_of s.values) form op x y → IsFormed s form op x y

-- a form is added that isn't there yet
pub record IsAdding (s : System) (form : Parts) (op : NumOp) (x y : ℚ) : Type 0 where
  pub system : IsSystem s
  pub absent : IsFurther s.forms form
  pub normal : IsNormal form
  pub below : TermsBelow s.terms form
  pub forms : IsFormed s form op x y

-- ---- rows

-- a coefficient is negated
pub data IsTurning (parts : Parts) : NumOp → ℚ → ℚ → Type 0 where
  negated : (k term : ℕ) (coefficient : ℤ) → slice_get parts k ≡ Some (term, coefficient) → IsTurning parts Neg (whole coefficient) (whole coefficient)

-- the constant is negated, or it or its negation is divided
pub data IsBounding (constant : ℤ) (divisor : ℕ) : NumOp → ℚ → ℚ → Type 0 where
  negated : IsBounding constant divisor Neg (whole constant) (whole constant)
  quotient : (z : ℤ) → (z ≡ constant) ⊎ (z ≡ neg_ℤ constant) → IsBounding constant divisor Div (whole z) (whole (pos divisor))

-- the greatest common divisor of a row's coefficients
pub record IsDivisorOf (parts : Parts) (g : ℕ) : Type 0 where
  pub divides : DividesAll g parts
  pub greatest : IsGreatest g parts

-- a row's parts are turned, its bound is formed, or its form is added
pub data IsRowRead (s : System) (row : Row) (op : NumOp) (x y : ℚ) : Type 0 where
  turning : IsTurning row.parts op x y → IsRowRead s row op x y
  bounding : row.parts ≢ [] → (g : ℕ) → IsDivisorOf row.parts g → IsBounding row.constant g op x y → IsRowRead s row op x y
  adding : (form : Parts) → AreMultiples row.parts form → IsAdding s form op x y → IsRowRead s row op x y

-- ---- moves and exchanges

-- a value, and so many times a way
pub data IsMoved (value factor by : ℚ) : NumOp → ℚ → ℚ → Type 0 where
  product : IsMoved value factor by Mul factor by
  sum : IsMoved value factor by Add value (factor *ℚ by)

-- of one of the lines
pub record IsShifting (lines : List (List Entry)) (v : Valuation) (variable : ℕ) (by : ℚ) (op : NumOp) (x y : ℚ) : Type 0 where
  pub line : ℕ
  pub inside : line < length lines
  pub moves : IsMoved (v line) (factor_of (line_at lines line) variable) by op x y

-- one of the lines, and as many times a combination as it has of the variable
pub record IsChanging (lines : List (List Entry)) (variable : ℕ) (zero : List Entry) (op : NumOp) (x y : ℚ) : Type 0 where
  pub line : ℕ
  pub inside : line < length lines
  pub sums : IsLineSum (line_at lines line) (factor_of (line_at lines line) variable) zero op x y

-- the inverse of a factor, its negation, and the products of that with a line's factors
pub data IsRelating (line : List Entry) (leaving : ℕ) (factor : ℚ) : NumOp → ℚ → ℚ → Type 0 where
  inverse : IsRelating line leaving factor Div (whole (pos 1)) factor
  negation : IsRelating line leaving factor Neg (whole (pos 1) /ℚ factor) (whole (pos 1) /ℚ factor)
  product : (k : ℕ) (f : Entry) → slice_get line k ≡ Some f
      → IsRelating line leaving factor Mul (neg_ℚ (whole (pos 1) /ℚ factor)) (value_of f.factor)
  sum : (k : ℕ) (f : Entry) (x y : ℚ) → slice_get line k ≡ Some f → f.variable ≡ leaving → IsRelating line leaving factor Add x y

-- it has the factor of a variable that is 1 for the leaving one, and 0 for each other, less that of a line, over the factor
abbrev pub IsZero : List Entry → ℕ → ℚ → List Entry → Type 0
IsZero line leaving factor zero = IsLine zero × ((x : Valuation) → combine x zero *ℚ factor ≡ x leaving -ℚ combine x line)

-- a free variable is brought to a bound
pub data IsBringing (s : System) (variable : ℕ) (bound : ℚ) : NumOp → ℚ → ℚ → Type 0 where
  difference : IsBringing s variable bound Sub bound (valuation_of s.values variable)
  shifting : (op : NumOp) (x y : ℚ) → IsShifting s.lines (valuation_of s.values) variable (bound -ℚ valuation_of s.values variable) op x y
      → IsBringing s variable bound op x y

-- a variable leaves with a bound, and another enters
pub data IsExchange (s : System) (leaving entering : ℕ) (factor bound : ℚ) : NumOp → ℚ → ℚ → Type 0 where
  difference : IsExchange s leaving entering factor bound Sub bound (valuation_of s.values leaving)
  quotient : IsExchange s leaving entering factor bound Div (bound -ℚ valuation_of s.values leaving) factor
  shifting : (op : NumOp) (x y : ℚ) → IsShifting s.lines (valuation_of s.values) entering ((bound -ℚ valuation_of s.values leaving) /ℚ factor) op x y
      → IsExchange s leaving entering factor bound op x y
  relating : (op : NumOp) (x y : ℚ) → IsRelating (line_at s.lines leaving) leaving factor op x y → IsExchange s leaving entering factor bound op x y
  changing : (zero : List Entry) (op : NumOp) (x y : ℚ) → IsZero (line_at s.lines leaving) leaving factor zero
      → IsChanging s.lines entering zero op x y → IsExchange s leaving entering factor bound op x y

-- ---- multipliers

-- the quotient of a factor by a divisor, and its negation
pub data IsShared (factor divisor : ℚ) : NumOp → ℚ → ℚ → Type 0 where
  quotient : IsShared factor divisor Div factor divisor
  negation : IsShared factor divisor Neg (factor /ℚ divisor) (factor /ℚ divisor)

-- 1, or a factor of the line
abbrev pub IsOneOrFactor : List Entry → ℚ → Type 0
IsOneOrFactor line x = (x ≡ whole (pos 1)) ⊎ ((k : ℕ) × (f : Entry) × (slice_get line k ≡ Some f) × (x ≡ value_of f.factor))

-- 1 or a factor of the line, over the divisor of a row that stands
pub record IsExplained (rows : List Standing) (line : List Entry) (op : NumOp) (x y : ℚ) : Type 0 where
  pub place : ℕ
  pub standing : Standing
  pub stands : slice_get rows place ≡ Some standing
  pub bound : Bound
  pub gives : standing.bound ≡ Some bound
  pub factor : ℚ
  pub is : IsOneOrFactor line factor
  pub shares : IsShared factor (whole bound.divisor) op x y
