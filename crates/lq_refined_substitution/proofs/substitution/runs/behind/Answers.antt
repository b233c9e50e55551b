use Rattle.std.proofs.Common.{◌++◌, ◌-◌, drop, take, length, sym, ap, ap₂, ◌∙◌, append_assoc}
use Rattle.lq_refined_substitution.specs.Substitution.Views.{run_list, runs_view, swaps_view}
use Rattle.lq_refined_substitution.proofs.SubstitutionLemmas.Sharing.{split-rows, swaps_view-append, whole-rest}
use Rattle.lq_refined_substitution.proofs.substitution.runs.behind.Goals as goal

pub returns : goal.returns
returns c =
    let runs = c.args.runs.now in
    let k = length runs - c.joined_before-joined.result.rows in
    let made = c.add_shared.new.made.items in
    let swaps = c.args.swaps.now in
    let all = c.add_copies.new.made.items in
    let shares = c.in_ok-add_shared.ensures ∙ ap (λ l. run_list l ++ run_list (take k runs)) c.in_ok-made.ensures.items in
    let copies = c.in_ok-add_copies.ensures
    ∙ ap (λ l. l ++ swaps_view swaps) (c.in_ok-add_copies_of.ensures ∙ ap₂ (λ a b. swaps_view a ++ runs_view b) c.in_ok-all.ensures.items (whole-rest runs k)) in
    ap swaps_view c.in_ok-add_run.ensures ∙ swaps_view-append (run_list made) all ∙ ap₂ (λ a b. a ++ b) (ap swaps_view shares) copies
    ∙ sym (append_assoc (runs_view (take k runs)) (runs_view (drop k runs)) (swaps_view swaps))
    ∙ ap (λ l. l ++ swaps_view swaps) (split-rows runs k)
