-- Numbers that stand in a row.
use Rattle.std.specs.Prelude.{ℕ, ◌+◌, ◌-◌, ◌<◌, ◌≤◌, ◌⊎◌, min}
use Rattle.lq_prover_search.specs.declared.pruning.span.Span.{Span}

-- not one of these numbers
abbrev pub IsOutside : Span → ℕ → Type 0
IsOutside s n = (n ≤ s.before) ⊎ (s.before + s.count < n)

-- what a number that is none of these is once these are gone: itself before them, and behind them that many less
abbrev pub moved : Span → ℕ → ℕ
moved s n = min n s.before + (n - (s.before + s.count))
