use Rattle.std.proofs.Common.{◌++◌, ◌+◌, drop, map, sym, ap, ◌∙◌, append_assoc}
use Rattle.std.proofs.lemmas.List.{map-append}
use Rattle.lq_refined_substitution.specs.Substitution.Composing.{put_in}
use Rattle.lq_refined_substitution.specs.Substitution.Views.{run_swaps, runs_view, subst_view, swaps_view}
use Rattle.lq_refined_substitution.proofs.SubstitutionLemmas.Sharing.{at-some, drop-at, runs_view-cons, runs_view-push}
use Rattle.lq_refined_substitution.proofs.substitution.composing.put_into_rows.Goals as goal

pub loop-run-preserved : goal.loop-run-preserved
loop-run-preserved c =
    let made = c.loop-run.made.items in
    let i = c.loop-run.run-index in
    let runs = c.args.runs.now in
    let r = c.run-item.result in
    let f = put_in (subst_view c.args.by.now) in
    let next = drop-at runs i r (at-some runs i r c.loop-run-test.true c.run-item.is) in
    let rest = drop (i + 1) runs in
    ap (λ l. l ++ map f (runs_view rest))
    (ap runs_view c.in_ok-push.ensures.items ∙ runs_view-push made c.in_ok-put_into_row.field-0
    ∙ ap (λ l. runs_view made ++ l) c.in_ok-put_into_row.ensures)
    ∙ append_assoc (runs_view made) (map f (swaps_view (run_swaps r))) (map f (runs_view rest))
    ∙ ap (λ l. runs_view made ++ l)
    (sym (map-append f (swaps_view (run_swaps r)) (runs_view rest)) ∙ ap (map f) (sym (runs_view-cons r rest) ∙ ap runs_view (sym next)))
    ∙ c.loop-run.invariant
