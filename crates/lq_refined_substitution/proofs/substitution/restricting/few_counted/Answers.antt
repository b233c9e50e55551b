use Rattle.std.proofs.Common.{◌≡◌, ◌++◌, [], reverse, sym, ap, ap₂, ◌∙◌}
use Rattle.std.proofs.lemmas.List.{append-nil}
use Rattle.std.proofs.lemmas.Result.{IfOk-weaker}
use Rattle.lq_refined_types.specs.Parts.Substitution.{Subst, kept, restricted}
use Rattle.lq_refined_substitution.specs.Substitution.Restricting.{rest_kept}
use Rattle.lq_refined_substitution.specs.Substitution.Views.{scopes_view, swaps_view}
use Rattle.lq_refined_substitution.proofs.substitution.restricting.few_counted.Goals as goal

pub returns : goal.returns
returns c =
    let S = scopes_view c.args.scopes.now c.args.unknown in
    let σ = swaps_view c.args.swaps.now in
    let a = c.new.result.items.items in
    let b = c.new-2.result.items.items in
    let done = c.counted_swaps.new.done in
    let begin = ap₂ (λ x y. kept S (reverse x) (reverse y) σ) (sym c.new.ensures) (sym c.new-2.ensures) ∙ ap (kept S (reverse a) (reverse b)) (sym (append-nil σ)) in
    IfOk-weaker c.counted_swaps.result
    (λ made. (τ : Subst) → kept S (reverse a) (reverse b) (σ ++ τ) ≡ swaps_view made.items ++ rest_kept S done τ)
    (λ made. swaps_view made.items ≡ restricted S σ)
    (λ made e. sym (begin ∙ e [] ∙ append-nil (swaps_view made.items))) c.counted_swaps.ensures
