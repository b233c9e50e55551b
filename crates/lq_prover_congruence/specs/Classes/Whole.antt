-- What always holds of classes.
use Rattle.lq_prover_congruence.specs.Classes.Standing.{steps_of, IsStanding}
use Rattle.lq_prover_congruence.specs.Classes.Forest.{IsKept}
use Rattle.lq_prover_congruence.specs.declared.classes.state.State.{State}
use Rattle.lq_prover_congruence.specs.declared.classes.forest.Forest.{Forest}

pub record IsWhole (s : State) (f : Forest) : Type 0 where
  pub standing : IsStanding s
  pub kept : IsKept (steps_of s.trail.items) f
