use Rattle.std.proofs.Common.{◌≡◌, ℕ, ◌+◌, ◌<◌, length, slice_index}
use Rattle.lq_types_unify.specs.Simple.{Simple}
use Rattle.lq_types_unify.specs.Nodes.{form_at}
use Rattle.lq_types_unify.specs.Classes.{root, IsState, Grows, AreShared}
use Rattle.lq_types_unify.proofs.classes.join_rows.Given as goal

abbrev pub invariant-loop-at : goal.invariant-loop-at
invariant-loop-at l = record {
  state : IsState (form_at l.arena) (length l.arena.nodes.items) l.parents l.shapes l.found.items;
  grows : Grows l.fn.parents l.parents l.fn.found.items l.found.items;
  same : (k : ℕ) → k < l.at → root l.parents (slice_index l.arena.parts.items (l.first + k)) ≡ root l.parents (slice_index l.arena.parts.items (l.start + k));
  shared : (types : ℕ → Simple) → AreShared l.fn.parents types → ((k : ℕ) → k < l.count → types (slice_index l.arena.parts.items (l.first + k)) ≡ types (slice_index l.arena.parts.items (l.start + k))) → AreShared l.parents types;
}
