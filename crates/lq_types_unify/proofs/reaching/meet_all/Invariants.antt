use Rattle.std.proofs.Common.{◌≡◌, ℕ, Bool, true, All, length, take}
use Rattle.lq_types_unify.specs.Nodes.{form_at}
use Rattle.lq_types_unify.specs.Classes.{root, IsSame}
use Rattle.lq_types_unify.specs.Reaching.{IsListed, IsMet, Lists}
use Rattle.lq_types_unify.proofs.reaching.meet_all.Given as goal

abbrev pub invariant-loop-node : goal.invariant-loop-node
invariant-loop-node l = record {
  classes : IsSame l.fn.parents l.parents;
  listed : IsListed (form_at l.arena) (length l.arena.nodes.items) l.parents l.shapes l.weak l.copies l.classes.items;
  lists : Lists (form_at l.arena) (length l.arena.nodes.items) l.shapes l.weak l.fn.copies l.copies l.fn.classes.items l.classes.items;
  met : All (λ i. IsMet (form_at l.arena) (length l.arena.nodes.items) l.shapes l.weak l.copies (root l.fn.parents i)) (take l.node-index l.nodes);
  among : (seen : ℕ → Bool) → All (λ r. seen r ≡ true) l.fn.classes.items → All (λ i. seen (root l.fn.parents i) ≡ true) l.nodes → All (λ r. seen r ≡ true) l.classes.items;
}
