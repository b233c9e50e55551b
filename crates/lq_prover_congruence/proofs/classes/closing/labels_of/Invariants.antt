-- The labels so far.
use Rattle.std.proofs.Common.{◌≡◌, map, take, get_or}
use Rattle.lq_prover_congruence.proofs.classes.closing.labels_of.Given as goal

abbrev pub invariant-loop-term : goal.invariant-loop-term
invariant-loop-term l = l.found.items ≡ map (λ a. get_or l.labels a 0) (take l.term-index l.terms)
