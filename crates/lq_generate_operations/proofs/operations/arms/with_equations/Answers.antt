use Rattle.std.proofs.Common.{◌≡◌, ◌++◌, map, sym, ap, ◌∙◌}
use Rattle.lq_refined_rules.specs.Checks.Operation.{equations_by}
use Rattle.lq_refined_types.specs.Parts.Part.{known}
use Rattle.lq_refined_types.specs.Parts.Substitution.{formula_by}
use Rattle.lq_refined_substitution.specs.Implications.Views.{environment_at}
use Rattle.lq_refined_subtyping.proofs.SplitLemmas.Contexts.{facts-guards}
use Rattle.lq_refined_substitution.specs.Substitution.Views.{part_view, subst_view}
use Rattle.lq_generate_operations.specs.Basis.Basis.{scopes_of}
use Rattle.lq_generate_operations.specs.Operations.Growing.{knows-guards}
use Rattle.lq_generate_operations.proofs.operations.arms.with_equations.Goals as goal

pub returns-clause-context : goal.returns-clause-context
returns-clause-context c =
    let θ = subst_view c.args.by.now in
    let n = c.args.constructor.0 in
    let env = environment_at c.args.list.now c.args.env in
    λ P names types Γ s k.
    let qs = equations_by P n θ in
    let put : map part_view c.as_slice.result.now ≡ qs =
    ap (map part_view) c.as_slice.ensures ∙ c.in_ok-parts.ensures ∙ ap (map (λ q. known (formula_by θ q))) (s.equations n) in
    record {
      knows = knows-guards qs Γ names c.args.basis.now types k.knows;
      facts = facts-guards (scopes_of c.args.basis.now) qs Γ ∙ ap (λ hs. hs ++ qs) k.facts
          ∙ sym (c.in_ok-added.ensures.facts ∙ ap (λ ps. env ++ ps) put);
    }
