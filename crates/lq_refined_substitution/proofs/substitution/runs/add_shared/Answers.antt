use Rattle.std.proofs.Common.{◌++◌, ◌+◌, drop, sym, ap, ◌∙◌, append_assoc}
use Rattle.lq_refined_substitution.specs.Substitution.Views.{run_list, run_swaps}
use Rattle.lq_refined_substitution.proofs.SubstitutionLemmas.Sharing.{at-some, drop-at, run_list-push}
use Rattle.lq_refined_substitution.proofs.substitution.runs.add_shared.Goals as goal

pub loop-run-preserved : goal.loop-run-preserved
loop-run-preserved c =
    let made = c.loop-run.made.items in
    let i = c.loop-run.run-index in
    let runs = c.args.runs.now in
    let r = c.run-item.result in
    let next = drop-at runs i r (at-some runs i r c.loop-run-test.true c.run-item.is) in
    ap (λ l. l ++ run_list (drop (i + 1) runs))
    (ap run_list c.in_ok-push.ensures.items ∙ run_list-push made c.in_ok-share.field-0 ∙ ap (λ l. run_list made ++ l) c.in_ok-share.ensures)
    ∙ append_assoc (run_list made) (run_swaps r) (run_list (drop (i + 1) runs)) ∙ ap (λ l. run_list made ++ run_list l) (sym next)
    ∙ c.loop-run.invariant
