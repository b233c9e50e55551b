use Rattle.std.proofs.Common.{◌∷◌, ap, subst, ◌∙◌}
use Rattle.lq_refined_rules.specs.Checks.Match.{value_as}
use Rattle.lq_refined_rules.specs.Checks.Operation.{equations_by}
use Rattle.lq_refined_types.specs.Subtyping.Subtype.{with_guards}
use Rattle.lq_generate_operations.specs.Operations.Over.{IsContext}
use Rattle.lq_generate_operations.proofs.operations.arms.missing_context.Goals as goal

pub returns-clause-context : goal.returns-clause-context
returns-clause-context c =
    λ P names types Γ s k.
    subst (λ θ. IsContext (with_guards (equations_by P c.args.constructor.0 θ) Γ) names c.args.basis.now types c.with_equations.new.list c.in_ok-made.made)
    (c.in_ok-by.ensures ∙ ap (λ θ. value_as c.args.used.name.0 ∷ θ) c.new-nothing.ensures)
    (c.in_ok-made.ensures.context P names types Γ s k)
