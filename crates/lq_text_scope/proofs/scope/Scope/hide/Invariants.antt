use Rattle.std.proofs.Common.{◌≡◌, drop}
use Rattle.lq_text_scope.proofs.scope.Scope.hide.Given as goal

abbrev pub invariant-loop : goal.invariant-loop
invariant-loop l = l.self ≡ drop l.counter l.initial.self
