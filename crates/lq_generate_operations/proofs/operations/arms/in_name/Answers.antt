use Rattle.std.proofs.Common.{ap, subst, ◌∙◌}
use Rattle.lq_refined_rules.specs.Checks.Operation.{bind}
use Rattle.lq_refined_rules.specs.Checks.Pure.{pure_type}
use Rattle.lq_refined_substitution.specs.Implications.Views.{environment_lists}
use Rattle.lq_refined_subtyping.specs.Split.Growing.{HasMore-refl}
use Rattle.lq_generate_operations.specs.Operations.Growing.{is_context-grown}
use Rattle.lq_generate_operations.specs.Operations.Over.{IsContext}
use Rattle.lq_generate_operations.proofs.OperationsLemmas.Uses.{seen-use}
use Rattle.lq_generate_operations.proofs.operations.arms.in_name.Goals as goal

pub returns-clause-context : goal.returns-clause-context
returns-clause-context c =
    let t0 = c.args.types.now in
    let t1 = c.pure_type.new.types in
    let b = c.args.basis.now in
    let names = c.args.names.now in
    let list = c.args.list.now in
    let env = c.args.env in
    λ P Γ s k.
    subst (λ t. IsContext (bind c.args.name.0 t Γ) c.bind.new.names b c.bind.new.types c.bind.new.list c.in_ok-made.made)
    (c.in_ok-at.ensures.refined P Γ s k.knows ∙ ap (pure_type P Γ) (seen-use c.args.used))
    (c.in_ok-made.ensures.context Γ
    (is_context-grown Γ names b t0 t1 list list env c.pure_type.ensures.grows c.requires.names (HasMore-refl (environment_lists list)) c.requires.env k))
