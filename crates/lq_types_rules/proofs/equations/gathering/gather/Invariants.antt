use Rattle.std.proofs.Common.{length}
use Rattle.lq_base_names.specs.declared.name.Binder.{Binder}
use Rattle.lq_text_tree.specs.Items.{items_view}
use Rattle.lq_text_walk.specs.Walk.Pending.{left}
use Rattle.lq_text_walk.specs.Walk.Visits.{visits_of_items}
use Rattle.lq_types_rules.proofs.EquationsLemmas.Widening.{IsGathering}
use Rattle.lq_types_rules.proofs.equations.gathering.gather.Given as goal

abbrev pub invariant-loop-walk : goal.invariant-loop-walk
invariant-loop-walk l = IsGathering l.constructors l.nodes l.slots (visits_of_items (items_view Binder (λ b. b.0) l.items)) (left Binder (λ b. b.0) l.walk) l.ends.items l.system

abbrev pub decreases-loop-walk : goal.decreases-loop-walk
decreases-loop-walk l = length (left Binder (λ b. b.0) l.walk)
