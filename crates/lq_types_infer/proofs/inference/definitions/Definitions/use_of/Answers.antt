use Rattle.std.proofs.Common.{sym, ap, ◌∙◌}
use Rattle.lq_base_names.specs.declared.name.Binder.{Binder}
use Rattle.lq_text_walk.specs.Walk.Pending.{visit_view}
use Rattle.lq_types_rules.specs.Typings.Uses.{use_at}
use Rattle.lq_types_infer.proofs.inference.definitions.Definitions.use_of.Goals as goal

pub returns-in-Leave-clause-found : goal.returns-in-Leave-clause-found
returns-in-Leave-clause-found c = λ k h. c.use_in.ensures.found k h ∙ sym (ap (λ v. use_at k (visit_view Binder (λ b. b.0) v)) c.in-Leave.is)
