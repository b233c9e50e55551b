use Rattle.std.proofs.Common.{◌≡◌, IfSome, ap, subst, sym, ◌∙◌}
use Rattle.std.proofs.lemmas.Result.{IfOk-weaker}
use Rattle.lq_refined_types.proofs.PartsLemmas.Replacing.{parts-after}
use Rattle.lq_refined_types.specs.Parts.Part.{Scopes}
use Rattle.lq_refined_types.proofs.TypesLemmas.Replacing.{type-after}
use Rattle.lq_refined_types.specs.Types.Operations.{renamed, twin, type_by}
use Rattle.lq_refined_types.specs.Types.Refined.{Refined}
use Rattle.lq_refined_subtyping.specs.Table.Forms.{binder_view, kind_view}
use Rattle.lq_refined_subtyping.specs.Table.Whole.{refined_at}
use Rattle.lq_refined_substitution.specs.Substitution.Views.{subst_view}
use Rattle.lq_refined_substitution.specs.declared.substitution.substs.Subst.{Subst}
use Rattle.lq_refined_subtyping.proofs.table.table.RefinedTypes.twinned_result.Goals as goal

pub returns-in_ok-both-in-Some-clause-refined : goal.returns-in_ok-both-in-Some-clause-refined
returns-in_ok-both-in-Some-clause-refined c =
    let x = binder_view c.args.x in
    let z = binder_view c.twin_binder.result in
    let k = kind_view c.args.kind in
    let θ = subst_view c.args.by.now in
    let σ = subst_view c.in-Some.first in
    let told = subst (λ o. IfSome o (λ (b : Subst). (scopes : Scopes) (t : Refined) → renamed scopes x z k t ≡ type_by scopes (subst_view b) t))
    c.in-Some.is c.in_ok-first.ensures.some in
    IfOk-weaker c.delay.result _ _
    (λ n h scopes.
    let t = twin scopes (refined_at scopes c.args.self.now c.args.at) in
    h scopes ∙ ap (λ ρ. type_by scopes ρ t) c.in_ok-both-in-Some.ensures ∙ type-after parts-after scopes θ σ t
    ∙ ap (type_by scopes θ) (sym (told scopes t) ∙ ap (λ y. renamed scopes x y k t) c.twin_binder.ensures))
    c.delay.ensures.refined
