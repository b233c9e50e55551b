use Rattle.std.proofs.Common.{length}
use Rattle.lq_base_names.specs.declared.name.Binder.{Binder}
use Rattle.lq_types_infer.specs.Annotation.Whole.{program_of, types_of}
use Rattle.lq_types_rules.specs.Typings.Uses.{Known, none_known}
use Rattle.lq_text_walk.specs.Walk.Pending.{left}
use Rattle.lq_text_walk.specs.Walk.Visits.{visits_of_items}
use Rattle.lq_types_infer.specs.Instantiation.Visiting.{IsAhead, IsAt}
use Rattle.lq_types_infer.proofs.instantiation.visiting.Pass.over.Given as goal

abbrev pub invariant-loop-walk : goal.invariant-loop-walk
invariant-loop-walk l =
    IsAhead (program_of l.annotated) (types_of l.annotated) none_known (visits_of_items (program_of l.annotated).items) 0
    → (k : Known) × IsAt l.annotated k (left Binder (λ b. b.0) l.walk) l.pass

abbrev pub decreases-loop-walk : goal.decreases-loop-walk
decreases-loop-walk l = length (left Binder (λ b. b.0) l.walk)
