use Rattle.std.proofs.Common.{◌≡◌, ◌+◌, ◌++◌, map, length}
use Rattle.lq_base_names.specs.declared.name.Binder.{Binder}
use Rattle.lq_text_tree.specs.Items.{items_view}
use Rattle.lq_text_walk.specs.Walk.Pending.{left}
use Rattle.lq_text_walk.specs.Walk.Visits.{visits_of_items}
use Rattle.lq_text_walk.specs.Scoped.Numbers.{binders_in}
use Rattle.lq_types_rules.specs.Typings.Fronts.{left_in}
use Rattle.lq_types_infer.proofs.AnnotationLemmas.Visited.{own_of}
use Rattle.lq_types_infer.proofs.annotation.numbering.slots_of.Given as goal

abbrev pub invariant-loop-walk : goal.invariant-loop-walk
invariant-loop-walk l = record {
  nodes : l.slots.items ++ left_in (left Binder (λ b. b.0) l.walk) ≡ own_of (items_view Binder (λ b. b.0) l.one)
      ++ left_in (visits_of_items (items_view Binder (λ b. b.0) l.one));
  binders : l.binders.items ++ map (λ x. l.nodes + x) (binders_in (left Binder (λ b. b.0) l.walk)) ≡ map (λ x. l.nodes + x)
      (binders_in (visits_of_items (items_view Binder (λ b. b.0) l.one)));
}

abbrev pub decreases-loop-walk : goal.decreases-loop-walk
decreases-loop-walk l = length (left Binder (λ b. b.0) l.walk)
