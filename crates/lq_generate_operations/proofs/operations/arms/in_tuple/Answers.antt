use Rattle.std.proofs.Common.{◌≡◌, [], sym, ap, ap₂, subst, ◌∙◌}
use Rattle.lq_refined_rules.specs.Checks.Match.{bind_components}
use Rattle.lq_refined_rules.specs.Checks.Pure.{type_of_use}
use Rattle.lq_refined_substitution.specs.Implications.Views.{environment_lists}
use Rattle.lq_refined_templates.specs.Programs.BlockView.{names_view}
use Rattle.lq_refined_templates.specs.Programs.PureView.{use_view}
use Rattle.lq_refined_types.specs.Types.Refined.{components_of}
use Rattle.lq_refined_subtyping.specs.Table.Forms.{each}
use Rattle.lq_refined_subtyping.specs.Table.Growing.{Extends-trans}
use Rattle.lq_refined_subtyping.specs.Table.Whole.{types_of}
use Rattle.lq_refined_subtyping.specs.Split.Growing.{HasMore-refl}
use Rattle.lq_generate_operations.specs.Basis.Basis.{scopes_of}
use Rattle.lq_generate_operations.specs.Operations.Growing.{is_context-grown}
use Rattle.lq_generate_operations.specs.Operations.Over.{IsContext}
use Rattle.lq_generate_operations.proofs.operations.arms.in_tuple.Goals as goal

pub returns-clause-context : goal.returns-clause-context
returns-clause-context c =
    let t0 = c.args.types.now in
    let t1 = c.type_of_use.new.types in
    let t2 = c.components_of.new.types in
    let b = c.args.basis.now in
    let S = scopes_of b in
    let names = c.args.names.now in
    let list = c.args.list.now in
    let xs = names_view c.args.components.now in
    let g = Extends-trans t0.rows.items t1.rows.items t2.rows.items c.type_of_use.ensures.grows c.components_of.ensures.grows in
    λ P Γ s k.
    let ts : each (types_of S t2) c.deref.result.now ≡ components_of (type_of_use P Γ (use_view c.args.used)) =
    ap (each (types_of S t2)) c.deref.ensures.value ∙ c.in_ok-rows.ensures.refined ∙ ap components_of (c.in_ok-at.ensures.refined P Γ s k.knows) in
    subst (λ Δ. IsContext Δ c.bind_components.new.names b c.bind_components.new.types c.bind_components.new.list c.in_ok-made.made)
    (ap₂ (λ R us. bind_components R [] 0 xs us Γ) (sym s.scopes) ts)
    (c.in_ok-made.ensures.context Γ
    (is_context-grown Γ names b t0 t2 list list c.args.env g c.requires.names (HasMore-refl (environment_lists list)) c.requires.env k))
