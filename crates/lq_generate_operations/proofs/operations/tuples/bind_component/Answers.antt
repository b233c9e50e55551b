use Rattle.std.proofs.Common.{subst}
use Rattle.lq_refined_rules.specs.Checks.Operation.{bind}
use Rattle.lq_refined_substitution.specs.Implications.Views.{environment_lists}
use Rattle.lq_refined_subtyping.specs.Split.Growing.{HasMore-refl}
use Rattle.lq_generate_operations.specs.Operations.Growing.{is_context-grown}
use Rattle.lq_generate_operations.specs.Operations.Over.{IsContext}
use Rattle.lq_generate_operations.proofs.operations.tuples.bind_component.Goals as goal

pub returns-clause-context : goal.returns-clause-context
returns-clause-context c =
    let old = c.args.types.now in
    let now = c.put_at_top.new.types in
    let b = c.args.basis.now in
    let names = c.args.names.now in
    let list = c.args.list.now in
    let env = c.args.env in
    let x = c.args.name.0 in
    λ Γ k.
    subst (λ t. IsContext (bind x t Γ) c.bind.new.names b c.bind.new.types c.bind.new.list c.in_ok-made.made) c.in_ok-at.ensures.refined
    (c.in_ok-made.ensures.context Γ
    (is_context-grown Γ names b old now list list env c.put_at_top.ensures.grows c.requires.names (HasMore-refl (environment_lists list)) c.requires.env k))
