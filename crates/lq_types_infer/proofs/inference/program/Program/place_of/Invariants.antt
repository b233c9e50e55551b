use Rattle.std.proofs.Common.{◌≡◌, drop}
use Rattle.lq_base_names.specs.declared.name.Binder.{Binder}
use Rattle.lq_text_walk.specs.Walk.Pending.{left}
use Rattle.lq_types_infer.specs.Inference.Programs.{visits_in}
use Rattle.lq_types_infer.proofs.inference.program.Program.place_of.Given as goal

abbrev pub invariant-loop : goal.invariant-loop
invariant-loop l = left Binder (λ b. b.0) l.walk ≡ drop l.counter (visits_in l.self)
