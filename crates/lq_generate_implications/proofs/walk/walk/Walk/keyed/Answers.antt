use Rattle.std.proofs.Common.{sym, ap₂, ◌∙◌}
use Rattle.lq_refined_rules.specs.Checks.Operation.{element_at}
use Rattle.lq_refined_templates.specs.Programs.PureView.{pure_view}
use Rattle.lq_refined_subtyping.specs.Table.Growing.{Extends-trans}
use Rattle.lq_generate_implications.proofs.WalkLemmas.Walks.{finds-types}
use Rattle.lq_generate_implications.proofs.walk.walk.Walk.keyed.Goals as goal

pub returns : goal.returns
returns c =
    let t0 = c.args.self.now.types in
    let t1 = c.template.new.types in
    let t2 = c.element_at.new.types in
    finds-types c.args.basis.now c.args.self.now c.args.env c.requires t2 c.in_ok-found.found
    (λ P Γ. element_at P.setting.scopes (pure_view c.args.key.now) (P.template c.args.point))
    (Extends-trans t0.rows.items t1.rows.items t2.rows.items c.template.ensures.grows c.element_at.ensures.grows)
    c.in_ok-found.ensures.there
    (λ P Γ s k. c.in_ok-found.ensures.refined
    ∙ ap₂ (λ z t. element_at z (pure_view c.args.key.now) t) (sym s.scopes) (c.in_ok-at.ensures.refined P s))
