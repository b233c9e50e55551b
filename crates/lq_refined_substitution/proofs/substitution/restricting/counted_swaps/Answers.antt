use Rattle.std.proofs.Common.{◌≡◌, ◌+◌, ◌∷◌, ◌++◌, List, drop, ap, sym, ◌∙◌}
use Rattle.std.proofs.lemmas.List.{drop_more}
use Rattle.lq_refined_substitution.specs.Substitution.Restricting.{rest_kept}
use Rattle.lq_refined_substitution.specs.Substitution.Views.{scopes_view, swap_view, swaps_view}
use Rattle.lq_refined_substitution.specs.declared.substitution.swaps.Swap.{Swap}
use Rattle.lq_refined_substitution.proofs.SubstitutionLemmas.Picking.{kept-next}
use Rattle.lq_refined_substitution.proofs.substitution.restricting.counted_swaps.Goals as goal

pub loop-swap-preserved : goal.loop-swap-preserved
loop-swap-preserved c σ =
    let S = scopes_view c.args.scopes.now c.args.unknown in
    let xs = c.args.swaps.now in
    let i = c.loop-swap.swap-index in
    let rest = swaps_view (drop (i + 1) xs) ++ σ in
    let next : drop i xs ≡ c.swap-item.result ∷ drop (i + 1) xs =
    drop_more xs i c.swap-item.result c.loop-swap-test.true ∙ ap (λ (s : Swap). s ∷ drop (i + 1) xs) (sym c.swap-item.is) in
    c.loop-swap.invariant σ
    ∙ (ap (λ (l : List Swap). swaps_view c.loop-swap.made.items ++ rest_kept S c.loop-swap.done (swaps_view l ++ σ)) next
    ∙ kept-next c.in_ok-is_kept.is_kept (swap_view c.swap-item.result) (swaps_view c.loop-swap.made.items) (swaps_view c.add_where.new.made.items)
    (rest_kept S c.is_counted.new.done rest) (rest_kept S c.loop-swap.done (swap_view c.swap-item.result ∷ rest)) c.in_ok-add_where.ensures
    (c.in_ok-is_kept.ensures rest))
