use Rattle.std.proofs.Common.{◌≡◌, ℕ, ◌*ℤ◌, ◌⊎◌, None}
use Rattle.std.specs.Ordering.{nat_cmp}
use Rattle.std.specs.BTreeMap.{btree_map_len, get}
use Rattle.std.specs.Option.{option_map}
use Rattle.lq_logic_predicates.specs.FormOf.{AllFit}
use Rattle.lq_logic_predicates.proofs.form.scale.Given as goal

abbrev pub invariant-loop-term : goal.invariant-loop-term
invariant-loop-term l = record {
  fit : AllFit l.into;
  so_far : (q : ℕ) → ((get nat_cmp l.from q ≡ get nat_cmp l.fn.from q) × (get nat_cmp l.into q ≡ None))
      ⊎ ((get nat_cmp l.from q ≡ None) × (get nat_cmp l.into q ≡ option_map (λ c. l.n *ℤ c) (get nat_cmp l.fn.from q)));
}

abbrev pub decreases-loop-term : goal.decreases-loop-term
decreases-loop-term l = btree_map_len l.from
