use Rattle.std.proofs.Common.{refl, subst, ◌∙◌}
use Rattle.lq_refined_rules.specs.Checks.Operation.{bind, body_context}
use Rattle.lq_refined_substitution.specs.Implications.Views.{environment_lists}
use Rattle.lq_refined_subtyping.specs.Table.Growing.{Extends-trans}
use Rattle.lq_refined_subtyping.specs.Table.Whole.{refined_at}
use Rattle.lq_refined_subtyping.specs.Split.Growing.{HasMore-refl}
use Rattle.lq_generate_operations.specs.Basis.Basis.{scopes_of}
use Rattle.lq_generate_operations.specs.Operations.Growing.{is_context-grown}
use Rattle.lq_generate_implications.specs.Walk.Through.{StandsAs}
use Rattle.lq_generate_implications.specs.declared.walk.walk.Walk.{Walk}
use Rattle.lq_generate_implications.proofs.WalkLemmas.Walks.{row-kept}
use Rattle.lq_generate_implications.proofs.WalkLemmas.Opening.{enters-with}
use Rattle.lq_generate_implications.proofs.walk.walk.Walk.enter_body.Goals as goal

pub returns-clause-enters : goal.returns-clause-enters
returns-clause-enters c =
    let b = c.args.basis.now in
    let w = c.args.self.now in
    let t1 = c.body_types.new.types in
    let t2 = c.bind.new.types in
    let v : Walk = record { types = t2; list = c.bind.new.list; names = c.bind.new.names; asked = w.asked } in
    enters-with b w v c.args.env c.in_ok-inner.inner (λ P Γ. body_context Γ c.args.parameter.0 (refined_at (scopes_of b) w.types c.args.row)) c.requires.sound
    (record {
      types = Extends-trans w.types.rows.items t1.rows.items t2.rows.items c.body_types.ensures.grows c.bind.ensures.grows;
      environments = c.bind.ensures.environments;
      implications = c.bind.ensures.implications;
      count = c.bind.ensures.count;
    })
    c.bind.ensures.longer c.bind.ensures.below refl c.in_ok-inner.ensures.there
    (λ P Γ h. subst (λ t. StandsAs (bind c.args.parameter.0 t Γ) b v c.in_ok-inner.inner) c.in_ok-found.ensures.parameter
    (c.in_ok-inner.ensures.context Γ
    (is_context-grown Γ w.names b w.types t1 w.list w.list c.args.env c.body_types.ensures.grows c.requires.sound.names (HasMore-refl (environment_lists w.list))
    c.requires.sound.inside h.1)))

pub returns-clause-refined : goal.returns-clause-refined
returns-clause-refined c =
    row-kept c.args.basis.now c.body_types.new.types c.bind.new.types c.in_ok-found.found.result c.bind.ensures.grows c.in_ok-found.ensures.result_there
    ∙ c.in_ok-found.ensures.result
