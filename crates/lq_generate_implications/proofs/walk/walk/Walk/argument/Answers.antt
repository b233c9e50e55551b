use Rattle.std.proofs.Common.{ap, ◌∙◌}
use Rattle.lq_refined_rules.specs.Checks.Pure.{pure_type}
use Rattle.lq_refined_templates.specs.Programs.PureView.{pure_view}
use Rattle.lq_refined_types.specs.Types.Refined.{argument_of}
use Rattle.lq_refined_subtyping.specs.Table.Growing.{Extends-trans}
use Rattle.lq_generate_implications.proofs.WalkLemmas.Walks.{finds-types}
use Rattle.lq_generate_implications.proofs.walk.walk.Walk.argument.Goals as goal

pub returns : goal.returns
returns c =
    let t0 = c.args.self.now.types in
    let t1 = c.pure_type.new.types in
    let t2 = c.function_type.new.types in
    finds-types c.args.basis.now c.args.self.now c.args.env c.requires t2 c.in_ok-found.found.argument
    (λ P Γ. argument_of (pure_type P Γ (pure_view c.args.function.now)))
    (Extends-trans t0.rows.items t1.rows.items t2.rows.items c.pure_type.ensures.grows c.function_type.ensures.grows)
    c.in_ok-found.ensures.argument_there
    (λ P Γ s k. c.in_ok-found.ensures.argument ∙ ap argument_of (c.in_ok-at.ensures.refined P Γ s k))
