use Rattle.std.proofs.Common.{◌++◌, drop, take, ap, ◌∙◌, append_assoc}
use Rattle.lq_refined_substitution.specs.Substitution.Views.{run_list, runs_view, swaps_view}
use Rattle.lq_refined_substitution.proofs.SubstitutionLemmas.Sharing.{split-rows, swaps_view-append, whole-rest}
use Rattle.lq_refined_substitution.proofs.substitution.runs.in_front.Goals as goal

pub returns : goal.returns
returns c =
    let runs = c.args.runs.now in
    let k = c.joined_behind-joined.result.rows in
    let swaps = c.args.swaps.now in
    let all = c.add_copies_of.new.made.items in
    let copies = c.in_ok-add_copies_of.ensures
    ∙ ap (λ l. l ++ runs_view (take k runs)) (c.in_ok-add_copies.ensures ∙ ap (λ l. swaps_view l ++ swaps_view swaps) c.in_ok-all.ensures.items) in
    ap swaps_view (c.in_ok-add_shared.ensures ∙ ap (λ l. run_list c.add_run.new.made.items ++ run_list l) (whole-rest runs k))
    ∙ swaps_view-append (run_list c.add_run.new.made.items) (run_list (drop k runs))
    ∙ ap (λ l. l ++ runs_view (drop k runs))
    (ap swaps_view (c.in_ok-add_run.ensures ∙ ap (λ l. run_list l ++ all) c.in_ok-made.ensures.items) ∙ copies)
    ∙ append_assoc (swaps_view swaps) (runs_view (take k runs)) (runs_view (drop k runs)) ∙ ap (λ l. swaps_view swaps ++ l) (split-rows runs k)
