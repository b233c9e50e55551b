use Rattle.std.proofs.Common.{ℕ, ◌<◌}
use Rattle.lq_logic_rows.specs.Steps.{valuation_of}
use Rattle.lq_logic_rows.specs.declared.bound.Side.{Side}
use Rattle.lq_prover_simplex.specs.Bounds.{Keeps, limit_at}
use Rattle.lq_prover_simplex.proofs.limits.Limits.broken.Given as goal

abbrev pub invariant-loop-variable : goal.invariant-loop-variable
invariant-loop-variable l = (k : ℕ) → k < l.variable → (side : Side) → Keeps side (valuation_of l.values k) (limit_at l.self side k)
