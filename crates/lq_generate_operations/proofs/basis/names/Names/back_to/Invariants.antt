use Rattle.std.proofs.Common.{◌≡◌, ◌-◌, ◌≤◌, drop, length}
use Rattle.lq_generate_operations.specs.Basis.Names.{bound}
use Rattle.lq_generate_operations.proofs.basis.names.Names.back_to.Given as goal

abbrev pub invariant-loop-self : goal.invariant-loop-self
invariant-loop-self l = record {
  is : bound l.self ≡ drop (length (bound l.initial.self) - length (bound l.self)) (bound l.initial.self);
  shorter : length (bound l.self) ≤ length (bound l.initial.self);
  enough : l.len - length (bound l.self) ≡ l.len - length (bound l.initial.self);
}

abbrev pub decreases-loop-self : goal.decreases-loop-self
decreases-loop-self l = length (bound l.self)
