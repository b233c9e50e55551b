use Rattle.std.proofs.Common.{◌≡◌, map, slice_index_or, take}
use Rattle.lq_generate_fresh.specs.Scopes.Inside.{nothing}
use Rattle.lq_generate_fresh.proofs.scopes.patterns.inner_of.Given as goal

abbrev pub invariant-loop-unknown : goal.invariant-loop-unknown
invariant-loop-unknown l = l.made.items ≡ map (λ u. slice_index_or l.inner u.scope nothing) (take l.unknown-index l.unknowns)
