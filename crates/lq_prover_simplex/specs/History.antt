-- What intervals were before rows came.
use Rattle.std.specs.Prelude.{◌==◌, if◌then◌else◌, nat_lt, ℕ, ◌<◌, ◌≤◌, ◌-◌, List, [], ◌∷◌, length, take, slice_get, IfSome, vec_capacity, All, AllPairs}
use Rattle.lq_prover_simplex.specs.declared.limits.Change.{Change}
use Rattle.lq_prover_simplex.specs.declared.limits.Interval.{Interval}
use Rattle.lq_prover_simplex.specs.declared.limits.Limits.{Limits}
use Rattle.lq_prover_simplex.specs.declared.row.Standing.{Standing}
use Rattle.lq_prover_simplex.specs.Bounds.{interval_in, AreTightest}

-- the interval of the variable when so many rows stood: what the first change of it by a row after these has, and what it is now where there is none
abbrev pub before : List Change → ℕ → ℕ → Interval → Interval
before [] count k now = now
before (c ∷ changes) count k now = if nat_lt c.row count then before changes count k now else (if c.variable == k then c.old else before changes count k now)

-- for each number of first rows the changes lead back to the tightest bounds that these give
pub record IsHistory (rows : List Standing) (intervals : List Interval) (changes : List Change) : Type 0 where
  pub rows_in : All (λ c. c.row < length rows) changes
  pub variables_in : All (λ c. c.variable < length intervals) changes
  pub ascend : AllPairs (λ c d. c.row < d.row) changes
  pub prefixes : (count : ℕ) → count ≤ length rows → AreTightest (take count rows) (λ k. before changes count k (interval_in intervals k))

-- the row of the last change, if there is one, is among so many first rows
abbrev pub IsBefore : List Change → ℕ → Type 0
IsBefore changes count = IfSome (slice_get changes (length changes - 1)) (λ c. c.row < count)

-- there is room for one variable more, and for one change
pub record HasRoom (limits : Limits) : Type 0 where
  pub intervals : length limits.intervals.items < vec_capacity limits.intervals
  pub changes : length limits.changes.items < vec_capacity limits.changes
