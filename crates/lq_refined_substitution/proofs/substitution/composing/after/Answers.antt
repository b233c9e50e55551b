use Rattle.std.proofs.Common.{◌++◌, map, sym, ap, ◌∙◌}
use Rattle.lq_refined_substitution.specs.Substitution.Composing.{put_in, after-map}
use Rattle.lq_refined_substitution.specs.Substitution.Listed.{listed_items, rows_items}
use Rattle.lq_refined_substitution.specs.Substitution.Views.{subst_view, swaps_view}
use Rattle.lq_refined_substitution.proofs.substitution.composing.after.Goals as goal

pub returns-in_ok-list-in-Few : goal.returns-in_ok-list-in-Few
returns-in_ok-list-in-Few c =
    let θ = subst_view c.args.first.now in
    let σ = c.args.second.now in
    c.in_ok-list-in-Few.ensures ∙ ap (λ l. map (put_in θ) (swaps_view l) ++ θ) (c.deref.ensures.value ∙ sym (ap listed_items c.in-Few.is))
    ∙ sym (after-map θ (subst_view σ))

pub returns-in_ok-list-in-Many : goal.returns-in_ok-list-in-Many
returns-in_ok-list-in-Many c =
    let θ = subst_view c.args.first.now in
    let σ = c.args.second.now in
    c.in_ok-list-in-Many.ensures
    ∙ ap (λ l. map (put_in θ) (swaps_view l) ++ θ) (ap rows_items c.deref-in-Many.ensures ∙ sym (ap listed_items c.in-Many.is))
    ∙ sym (after-map θ (subst_view σ))
