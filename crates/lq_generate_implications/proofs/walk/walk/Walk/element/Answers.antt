use Rattle.std.proofs.Common.{ap, ◌∙◌}
use Rattle.lq_refined_rules.specs.Checks.Pure.{type_of_use}
use Rattle.lq_refined_templates.specs.Programs.PureView.{use_view}
use Rattle.lq_refined_types.specs.Types.Refined.{element_of}
use Rattle.lq_refined_subtyping.specs.Table.Growing.{Extends-trans}
use Rattle.lq_generate_implications.proofs.WalkLemmas.Walks.{finds-types}
use Rattle.lq_generate_implications.proofs.walk.walk.Walk.element.Goals as goal

pub returns : goal.returns
returns c =
    let t0 = c.args.self.now.types in
    let t1 = c.type_of_use.new.types in
    let t2 = c.element_of.new.types in
    finds-types c.args.basis.now c.args.self.now c.args.env c.requires t2 c.in_ok-found.found
    (λ P Γ. element_of (type_of_use P Γ (use_view c.args.used)))
    (Extends-trans t0.rows.items t1.rows.items t2.rows.items c.type_of_use.ensures.grows c.element_of.ensures.grows)
    c.in_ok-found.ensures.there
    (λ P Γ s k. c.in_ok-found.ensures.refined ∙ ap element_of (c.in_ok-at.ensures.refined P Γ s k))
