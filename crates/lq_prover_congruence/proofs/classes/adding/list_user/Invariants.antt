-- The term is among the users of the arguments so far.
use Rattle.std.proofs.Common.{ℕ, ◌<◌, [], take, slice_index_or}
use Rattle.lq_prover_congruence.specs.Ring.Ring.{times}
use Rattle.lq_prover_congruence.specs.Classes.Moves.{KeepsUses}
use Rattle.lq_prover_congruence.proofs.classes.adding.list_user.Given as goal

abbrev pub invariant-loop-arg : goal.invariant-loop-arg
invariant-loop-arg l = record { kept : KeepsUses l.initial.uses l.uses; listed : (a : ℕ) → 0 < times a (take l.arg-index l.args) → 0 < times l.term (slice_index_or l.uses a []) }
