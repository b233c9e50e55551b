use Rattle.lq_base_names.specs.declared.name.Binder.{Binder}
use Rattle.lq_text_walk.specs.Walk.Pending.{left}
use Rattle.lq_types_infer.proofs.InferenceLemmas.Walking.{IsFront}
use Rattle.lq_types_infer.proofs.inference.program.Program.attempt.Given as goal

abbrev pub invariant-loop-taken : goal.invariant-loop-taken
invariant-loop-taken l = IsFront l.self l.taken (left Binder (λ b. b.0) l.walk) l.equations
