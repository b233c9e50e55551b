use Rattle.std.proofs.Common.{◌≡◌, ◌+◌, length}
use Rattle.lq_base_names.specs.declared.name.Binder.{Binder}
use Rattle.lq_text_tree.specs.Items.{items_view}
use Rattle.lq_text_walk.specs.Walk.Pending.{left}
use Rattle.lq_text_walk.specs.Walk.Visits.{visits_of_items}
use Rattle.lq_types_rules.specs.Typings.Fronts.{left_in}
use Rattle.lq_types_infer.proofs.inference.program.counts_of.Given as goal

abbrev pub invariant-loop-walk : goal.invariant-loop-walk
invariant-loop-walk l = record {
  nodes : l.nodes + length (left_in (left Binder (λ b. b.0) l.walk)) ≡ length (left_in (visits_of_items (items_view Binder (λ b. b.0) l.items)));
  visits : l.visits + length (left Binder (λ b. b.0) l.walk) ≡ length (visits_of_items (items_view Binder (λ b. b.0) l.items));
}

abbrev pub decreases-loop-walk : goal.decreases-loop-walk
decreases-loop-walk l = length (left Binder (λ b. b.0) l.walk)
