-- Nodes where what is visible stays the same.
use Rattle.std.specs.Prelude.{◌≡◌, ℕ, ◌≤◌, true}
use Rattle.lq_refined_templates.specs.Points.Seen.{is_before}
use Rattle.lq_generate_reading.specs.declared.visibility.level.Span.{Span}

pub record IsIn (s : Span) (i : ℕ) : Type 0 where
  pub from : s.from ≤ i
  pub before : is_before i s.end ≡ true
