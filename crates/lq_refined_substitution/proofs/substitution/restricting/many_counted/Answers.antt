use Rattle.std.proofs.Common.{◌≡◌, ◌++◌, [], reverse, sym, ap, ap₂, ◌∙◌}
use Rattle.std.proofs.lemmas.List.{append-nil}
use Rattle.std.proofs.lemmas.Result.{IfOk-weaker}
use Rattle.lq_refined_types.specs.Parts.Substitution.{kept, restricted}
use Rattle.lq_refined_substitution.specs.Substitution.Listed.{rows_items}
use Rattle.lq_refined_substitution.specs.Substitution.Restricting.{rest_kept}
use Rattle.lq_refined_substitution.specs.Substitution.Views.{run_list, runs_view, scopes_view, swaps_view}
use Rattle.lq_refined_substitution.proofs.SubstitutionLemmas.Sharing.{swaps_view-append}
use Rattle.lq_refined_substitution.proofs.substitution.restricting.many_counted.Goals as goal

pub returns : goal.returns
returns c =
    let S = scopes_view c.args.scopes.now c.args.unknown in
    let rows = c.args.rows.now in
    let front = rows.front.items in
    let back = rows.back.items in
    let made_front = c.in_ok-front.front.items in
    let made_back = c.in_ok-back.back.items in
    let between = c.counted_rows.new.done in
    let begin = ap₂ (λ a b. kept S (reverse a) (reverse b) (runs_view front ++ runs_view back)) (sym c.new.ensures) (sym c.new-2.ensures) in
    let first = ap (λ l. kept S (reverse c.new.result.items.items) (reverse c.new-2.result.items.items) (runs_view l ++ runs_view back)) (sym c.deref.ensures.value)
    ∙ c.in_ok-front.ensures (runs_view back) in
    let second = ap (rest_kept S between) (ap runs_view (sym c.deref-2.ensures.value) ∙ sym (append-nil (runs_view c.deref-2.result.now)))
    ∙ c.in_ok-back.ensures [] ∙ append-nil (runs_view made_back) in
    let all = ap (restricted S) (swaps_view-append (run_list front) (run_list back)) ∙ begin ∙ first ∙ ap (λ l. runs_view made_front ++ l) second in
    IfOk-weaker c.of.result (λ made. rows_items made ≡ run_list made_front ++ run_list made_back)
    (λ made. swaps_view (rows_items made) ≡ restricted S (swaps_view (rows_items rows)))
    (λ made e. ap swaps_view e ∙ swaps_view-append (run_list made_front) (run_list made_back) ∙ sym all) c.of.ensures
