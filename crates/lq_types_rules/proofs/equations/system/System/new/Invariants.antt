use Rattle.std.proofs.Common.{◌≡◌, ℕ, None, length}
use Rattle.lq_types_unify.specs.Nodes.{form_at, IsArena}
use Rattle.lq_types_rules.proofs.equations.system.System.new.Given as goal

abbrev pub invariant-loop : goal.invariant-loop
invariant-loop l = record {
  arena : IsArena l.arena;
  long : length l.arena.nodes.items ≡ l.counter;
  empty : (i : ℕ) → form_at l.arena i ≡ None;
}
