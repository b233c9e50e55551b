use Rattle.std.proofs.Common.{◌≡◌, ℕ, ◌+◌, ◌-◌, ◌≤◌, Bool, true, All, length, take}
use Rattle.lq_types_unify.specs.Nodes.{form_at}
use Rattle.lq_types_unify.specs.Classes.{root, IsSame}
use Rattle.lq_types_unify.specs.Value.{inner}
use Rattle.lq_types_unify.specs.Reaching.{IsListed, IsMet, IsInherited, unlisted}
use Rattle.lq_types_unify.proofs.reaching.reach.Given as goal

abbrev pub invariant-classes : goal.invariant-classes
invariant-classes l = record {
  same : IsSame l.fn.parents l.parents;
  within : l.at ≤ length l.classes.items;
  listed : IsListed (form_at l.arena) (length l.arena.nodes.items) l.parents l.shapes l.weak l.copies l.classes.items;
  begins : All (λ i. IsMet (form_at l.arena) (length l.arena.nodes.items) l.shapes l.weak l.copies (root l.fn.parents i)) l.nodes;
  goes_on : All (λ r. All (λ p. IsMet (form_at l.arena) (length l.arena.nodes.items) l.shapes l.weak l.copies (root l.fn.parents p)) (inner (form_at l.arena) l.shapes r)) (take l.at l.classes.items);
  only : (seen : ℕ → Bool) → IsInherited (form_at l.arena) l.fn.parents l.shapes seen → All (λ i. seen (root l.fn.parents i) ≡ true) l.nodes → All (λ r. seen r ≡ true) l.classes.items;
}

abbrev pub decreases-classes : goal.decreases-classes
decreases-classes l = (unlisted (length l.arena.nodes.items) l.copies + length l.classes.items) - l.at
