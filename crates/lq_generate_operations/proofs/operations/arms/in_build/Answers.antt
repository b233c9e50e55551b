use Rattle.std.proofs.Common.{◌≡◌, [], ap, ap₂, subst, ◌∙◌}
use Rattle.lq_refined_rules.specs.Checks.Match.{bind_all, fields_by, names_for}
use Rattle.lq_refined_rules.specs.Checks.Operation.{equations_by}
use Rattle.lq_refined_rules.specs.Checks.Pure.{type_of_use}
use Rattle.lq_refined_substitution.specs.Implications.Views.{environment_lists}
use Rattle.lq_refined_templates.specs.Programs.BlockView.{names_view}
use Rattle.lq_refined_templates.specs.Programs.PureView.{use_view}
use Rattle.lq_refined_subtyping.specs.Table.Forms.{each}
use Rattle.lq_refined_subtyping.specs.Table.Growing.{Extends-trans}
use Rattle.lq_refined_subtyping.specs.Table.Whole.{types_of}
use Rattle.lq_refined_subtyping.specs.Split.Growing.{HasMore-refl}
use Rattle.lq_refined_types.specs.Subtyping.Subtype.{with_guards}
use Rattle.lq_generate_operations.specs.Basis.Basis.{scopes_of}
use Rattle.lq_generate_operations.specs.Basis.Growing.{stands-grown}
use Rattle.lq_generate_operations.specs.Operations.Growing.{is_context-grown}
use Rattle.lq_generate_operations.specs.Operations.Over.{IsContext}
use Rattle.lq_generate_operations.proofs.operations.arms.in_build.Goals as goal

pub returns-clause-context : goal.returns-clause-context
returns-clause-context c =
    let t0 = c.args.types.now in
    let t1 = c.named_fields.new.types in
    let t2 = c.bind_all.new.types in
    let b = c.args.basis.now in
    let S = scopes_of b in
    let names = c.args.names.now in
    let list = c.args.list.now in
    let n = c.args.constructor.0 in
    let x = c.args.used.name.0 in
    let xs = names_view c.args.fields.now in
    let g = Extends-trans t0.rows.items t1.rows.items t2.rows.items c.named_fields.ensures.grows c.bind_all.ensures.grows in
    λ P Γ s k.
    let t = type_of_use P Γ (use_view c.args.used) in
    let put = names_for 0 xs (fields_by P Γ x t n []) in
    let ts : each (types_of S t1) c.deref.result.now ≡ fields_by P Γ x t n put =
    ap (each (types_of S t1)) c.deref.ensures.value ∙ c.in_ok-named.ensures.rows P Γ s k.knows in
    subst (λ Δ. IsContext Δ c.bind_all.new.names b t2 c.with_equations.new.list c.in_ok-made.made)
    (ap₂ (λ θ us. with_guards (equations_by P n θ) (bind_all xs us Γ)) (c.in_ok-named.ensures.by P Γ s k.knows) ts)
    (c.in_ok-made.ensures.context P c.bind_all.new.names t2 (bind_all xs (each (types_of S t1) c.deref.result.now) Γ)
    (stands-grown P b t0 t2 g c.requires.there s)
    (c.in_ok-inner.ensures.context Γ
    (is_context-grown Γ names b t0 t1 list list c.args.env c.named_fields.ensures.grows c.requires.names (HasMore-refl (environment_lists list))
    c.requires.env k)))
