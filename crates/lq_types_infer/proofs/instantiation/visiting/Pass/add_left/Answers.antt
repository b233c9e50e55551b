use Rattle.std.specs.Option.{option_map}
use Rattle.std.proofs.Common.{sym, ap, ◌∙◌}
use Rattle.lq_base_names.specs.declared.name.Binder.{Binder}
use Rattle.lq_text_walk.specs.Walk.Pending.{visit_view}
use Rattle.lq_types_infer.specs.Annotation.Whole.{program_of, types_of}
use Rattle.lq_types_infer.specs.Instantiation.General.{use_view}
use Rattle.lq_types_infer.proofs.InstantiationLemmas.Going.{use_found}
use Rattle.lq_types_infer.proofs.instantiation.visiting.Pass.add_left.Goals as goal

pub add_use-requires-clause-used : goal.add_use-requires-clause-used
add_use-requires-clause-used c =
    let a = c.args.annotated.now in
    use_found (program_of a) (types_of a) c.args.self.now.definitions (visit_view Binder (λ b. b.0) c.args.visit) c.in-Some.used
    (λ k h. sym (ap (option_map use_view) c.in-Some.is) ∙ c.use_of.ensures k h) c.requires.used
