-- Implications whose environments are there.
use Rattle.std.specs.Prelude.{ℕ, ◌<◌}
use Rattle.lq_refined_substitution.specs.declared.implications.implication.Implication.{Implication}

-- its environment is one of so many
abbrev pub IsPlaced : ℕ → Implication → Type 0
IsPlaced n i = i.env < n
