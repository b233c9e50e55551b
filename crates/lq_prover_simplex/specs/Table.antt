-- What a tableau is seen as, and what always holds of one.
use Rattle.std.specs.Prelude.{◌≡◌, ℕ, List, [], ◌∷◌, ◌++◌, length}
use Rattle.lq_base_numbers.specs.Rationals.Rational.{ℚ}
use Rattle.lq_base_numbers.specs.declared.fractions.frac.Frac.{Frac}
use Rattle.lq_logic_rows.specs.Row.{Row, Valuation}
use Rattle.lq_logic_rows.specs.Contradiction.{Tagged, Solves, IsContradiction}
use Rattle.lq_logic_rows.specs.Steps.{valuation_of}
use Rattle.lq_logic_rows.specs.Answers.{Last, last_of}
use Rattle.lq_logic_rows.specs.declared.engine.Answer.{Answer}
use Rattle.lq_logic_rows.specs.declared.engine.Answer.TheVariants.{Solved, Contradicted}
use Rattle.lq_logic_rows.specs.declared.engine.LinearStop.{LinearStop}
use Rattle.lq_logic_rows.specs.declared.engine.LinearStop.TheVariants.{Number, Pivots, Memory}
use Rattle.lq_prover_simplex.specs.declared.row.Standing.{Standing}
use Rattle.lq_prover_simplex.specs.declared.error.TableauError.{TableauError}
use Rattle.lq_prover_simplex.specs.declared.error.TableauError.TheVariants as failed
use Rattle.lq_prover_simplex.specs.declared.error.TableauError.TheVariants.{Past, Spent}
use Rattle.lq_logic_rows.specs.Difference.{TermsBelow}
use Rattle.lq_prover_pivots.specs.Pivots.Rows.{Variables}
use Rattle.lq_prover_pivots.specs.Pivots.Configurations.{Configuration}
use Rattle.lq_prover_pivots.specs.Pivots.Pivots.{IsChain}
use Rattle.lq_prover_pivots.specs.Pivots.Variables.{AreVariables}
use Rattle.lq_prover_simplex.specs.Systems.{System}
use Rattle.lq_prover_simplex.specs.Standing.{standing_of, multipliers_of, AllRead, TagsApart}
use Rattle.lq_prover_simplex.specs.Bounds.{Limits}
use Rattle.lq_prover_simplex.specs.History.{IsHistory}
use Rattle.lq_prover_simplex.specs.Appearing.{AreFormsOf}
use Rattle.lq_prover_simplex.specs.Conflicts.{AllGiven}
use Rattle.lq_prover_simplex.specs.Operations.{IsPastIn, StopsIn}
use Rattle.lq_prover_simplex.specs.Working.{IsWorkOver}
use Rattle.lq_prover_simplex.specs.Configurations.{AllAmong, Rests}

-- the variables with their values, the rows that stand, the bounds that these give, the multipliers of the last conflict, the last answer,
-- and the limit on pivots
pub record Table : Type 0 where
  pub system : System
  pub rows : List Standing
  pub limits : Limits
  pub found : List (ℕ × Frac)
  pub answer : Answer
  pub limit : ℕ

abbrev pub table_rows : Table → Tagged
table_rows t = standing_of t.rows

abbrev pub table_limits : Table → List ℕ
table_limits t = t.system.terms ∷ t.limit ∷ []

abbrev pub table_last : Table → Last
table_last t = last_of t.answer

abbrev pub table_point : Table → Valuation
table_point t = valuation_of t.system.values

abbrev pub table_multipliers : Table → List (ℕ × ℚ)
table_multipliers t = multipliers_of t.found

-- every row over the terms
abbrev pub TakesRow : List ℕ → Tagged → Row → Type 0
TakesRow [] rows row = ⊥
TakesRow (terms ∷ more) rows row = TermsBelow terms row.parts

-- the rows without their tags
abbrev pub untagged : Tagged → List Row
untagged [] = []
untagged (r ∷ rows) = r.1 ∷ untagged rows

-- a chain of so many pivots leads from configuration to configuration: of the variables of the rows ever handed over, under the rows that
-- stand
pub record IsSpent (terms limit : ℕ) (standing : Tagged) (ever : List Row) : Type 0 where
  pub variables : Variables
  pub over : variables.terms ≡ terms
  pub listed : AreVariables ever variables
  pub chain : ℕ → Configuration
  pub pivots : IsChain variables ever (untagged standing) limit chain

-- an operation of the work that has no result within 128 bits, the limit on pivots where a chain spends it, or want of memory
abbrev pub StopsAt : ℕ → ℕ → Tagged → List Row → LinearStop → Type 0
StopsAt terms limit standing ever (Number e) = IsPastIn (IsWorkOver terms ever) e
StopsAt terms limit standing ever (Pivots count) = (count ≡ limit) × IsSpent terms limit standing ever
StopsAt terms limit standing ever Memory = Unit {0}

abbrev pub MayStop : List ℕ → Tagged → List Row → LinearStop → Type 0
MayStop [] rows ever stop = ⊥
MayStop (terms ∷ []) rows ever stop = ⊥
MayStop (terms ∷ limit ∷ more) rows ever stop = StopsAt terms limit rows ever stop

-- the forms past the terms are those of these rows, by their first appearance; the rows that stand are among these, and each free
-- variable has the value 0 or a bound that one of these gives it
pub record Handed (t : Table) (rows : List Row) : Type 0 where
  pub forms : AreFormsOf rows t.system.terms t.system.forms
  pub among : AllAmong rows t.rows
  pub rests : Rests rows t.system

-- why a check finds no verdict, with these rows standing and these ever handed over: an operation of the work, or, where the limit is spent,
-- a chain of pivots
abbrev pub FailsBy : ℕ → ℕ → Tagged → List Row → TableauError → Type 0
FailsBy terms limit standing ever (Past e) = IsPastIn (IsWorkOver terms ever) e
FailsBy terms limit standing ever Spent = IsSpent terms limit standing ever
FailsBy terms limit standing ever failed.Memory = Unit {0}

-- and so whatever rows were ever handed over
abbrev pub HasCause : System → List Standing → ℕ → TableauError → Type 0
HasCause s rows limit error =
    (ever : List Row) → AreFormsOf ever s.terms s.forms → AllAmong ever rows → Rests ever s → FailsBy s.terms limit (standing_of rows) ever error

-- an operation of the work, or want of memory, whatever rows give the limits and whatever rows were ever handed over
abbrev pub HasWork : System → Limits → TableauError → Type 0
HasWork s limits error =
    (ever : List Row) (rows : List Standing) → AllRead s.forms rows → AllGiven rows limits → AreFormsOf ever s.terms s.forms → AllAmong ever rows → Rests ever s
    → StopsIn (IsWorkOver s.terms ever) error

-- so where one more row is handed over
abbrev pub StopsReading : System → Row → TableauError → Type 0
StopsReading s row error =
    (ever : List Row) → AreFormsOf ever s.terms s.forms → Rests ever s → StopsIn (IsWorkOver s.terms (ever ++ row ∷ [])) error

pub record IsTable (t : Table) : Type 0 where
  pub read : AllRead t.system.forms t.rows
  pub apart : TagsApart t.rows
  pub placed : length t.limits.intervals.items ≡ length t.system.forms
  pub history : IsHistory t.rows t.limits.intervals.items t.limits.changes.items
  pub solved : t.answer ≡ Solved → Solves (valuation_of t.system.values) (standing_of t.rows)
  pub contradicted : t.answer ≡ Contradicted → IsContradiction (standing_of t.rows) (multipliers_of t.found)
