use Rattle.std.proofs.Common.{◌++◌, ◌+◌, [], ◌∷◌, drop, sym, ap, ap₂, ◌∙◌, append_assoc}
use Rattle.std.proofs.lemmas.List.{take_all, drop_all}
use Rattle.lq_refined_substitution.specs.Substitution.Restricting.{picked_view, rest_kept}
use Rattle.lq_refined_substitution.specs.Substitution.Views.{run_swaps, runs_view, scopes_view, swap_view, swaps_view}
use Rattle.lq_refined_substitution.proofs.SubstitutionLemmas.Sharing.{at-some, drop-at, kept-step, runs_view-push}
use Rattle.lq_refined_substitution.proofs.substitution.restricting.add_counted.Goals as goal

pub loop-at-preserved : goal.loop-at-preserved
loop-at-preserved c σ =
    let S = scopes_view c.args.scopes.now c.args.unknown in
    let ss = c.as_slice-swaps.result.now in
    let i = c.loop-at.at in
    let s = c.index-swaps-at.result in
    let here = at-some ss i s c.loop-at-test.true c.index-swaps-at.is in
    let rest = swaps_view (drop (i + 1) ss) ++ σ in
    let old = picked_view c.loop-at.picked ss i in
    let new = picked_view c.in_ok-picked.picked ss (i + 1) in
    c.loop-at.invariant σ ∙ ap (λ l. old ++ rest_kept S c.loop-at.done (swaps_view l ++ σ)) (drop-at ss i s here)
    ∙ kept-step c.in_ok-is_kept.is_kept old new (swap_view s ∷ []) (rest_kept S c.loop-at.done (swap_view s ∷ rest)) (rest_kept S c.is_counted.new.done rest)
    (c.in_ok-picked.ensures s here) (c.in_ok-is_kept.ensures rest)

pub returns-in_ok-push-in-Whole : goal.returns-in_ok-push-in-Whole
returns-in_ok-push-in-Whole c σ =
    let S = scopes_view c.args.scopes.now c.args.unknown in
    let ss = c.as_slice-swaps.result.now in
    let i = c.loop-at.at in
    let made = c.args.made.now.items in
    let r = c.in_ok-share-in-Whole.field-0 in
    let done = c.loop-at.done in
    let kept = ap (λ p. picked_view p ss i) c.in-Whole.is ∙ ap swaps_view (take_all i ss c.loop-at-test.false ∙ c.as_slice-swaps.ensures ∙ sym c.in_ok-share-in-Whole.ensures) in
    let rest = ap (λ l. rest_kept S done (swaps_view l ++ σ)) (drop_all i ss c.loop-at-test.false) in
    ap (λ l. runs_view made ++ rest_kept S c.args.done.now (swaps_view l ++ σ)) (sym c.as_slice-swaps.ensures)
    ∙ ap (λ l. runs_view made ++ l) (c.loop-at.invariant σ ∙ ap₂ (λ a b. a ++ b) kept rest)
    ∙ sym (append_assoc (runs_view made) (swaps_view (run_swaps r)) (rest_kept S done σ))
    ∙ ap (λ l. l ++ rest_kept S done σ) (sym (ap runs_view c.in_ok-push-in-Whole.ensures.items ∙ runs_view-push made r))
