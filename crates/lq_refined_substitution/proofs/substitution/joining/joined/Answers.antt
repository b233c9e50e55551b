use Rattle.std.proofs.Common.{◌≡◌, ◌++◌, sym, ap, ap₂, ◌∙◌, append_assoc}
use Rattle.std.proofs.lemmas.Result.{IfOk-weaker}
use Rattle.lq_refined_substitution.specs.Substitution.Listed.{rows_items}
use Rattle.lq_refined_substitution.specs.Substitution.Views.{run_list, runs_view, swaps_view}
use Rattle.lq_refined_substitution.proofs.SubstitutionLemmas.Sharing.{swaps_view-append}
use Rattle.lq_refined_substitution.proofs.substitution.joining.joined.Goals as goal

pub returns-then-len-count : goal.returns-then-len-count
returns-then-len-count c =
    let front = c.args.front.items in
    let back = c.args.back.items in
    let more = swaps_view (rows_items c.args.more.now) in
    let made = c.in_ok-back.back.items in
    let copied = ap swaps_view c.deref-then-len-count.ensures.value ∙ c.in_ok-add_to.ensures ∙ ap (λ l. swaps_view l ++ more) c.in_ok-swaps.ensures.items in
    let behind = c.in_ok-back.ensures ∙ ap₂ (λ a b. runs_view a ++ b) c.deref.ensures.value copied in
    IfOk-weaker c.of.result (λ rows. rows_items rows ≡ run_list front ++ run_list made)
    (λ rows. swaps_view (rows_items rows) ≡ (runs_view front ++ runs_view back) ++ more)
    (λ rows e. ap swaps_view e ∙ swaps_view-append (run_list front) (run_list made) ∙ ap (λ l. runs_view front ++ l) behind
    ∙ sym (append_assoc (runs_view front) (runs_view back) more)) c.of.ensures

pub returns-then-count-le-FEW : goal.returns-then-count-le-FEW
returns-then-count-le-FEW c =
    let front = c.args.front.items in
    let back = c.args.back.items in
    let more = c.args.more.now in
    let made = c.in_ok-front.front.items in
    let behind = c.in_ok-back-2.back.items in
    let few = runs_view front ++ runs_view back in
    let copied = ap swaps_view c.deref-then-count-le-FEW-3.ensures.value ∙ c.in_ok-add_copies_of-2.ensures
    ∙ ap₂ (λ a b. a ++ runs_view b)
    (c.in_ok-add_copies_of.ensures ∙ ap₂ (λ a b. swaps_view a ++ runs_view b) c.in_ok-swaps-2.ensures.items c.deref-then-count-le-FEW.ensures.value)
    c.deref-then-count-le-FEW-2.ensures.value in
    let first = c.in_ok-front.ensures ∙ ap₂ (λ a b. a ++ runs_view b) copied c.deref-then-count-le-FEW-4.ensures.value in
    let second = ap swaps_view (c.in_ok-back-2.ensures ∙ ap run_list c.deref-then-count-le-FEW-5.ensures.value) in
    IfOk-weaker c.of-then-count-le-FEW.result (λ rows. rows_items rows ≡ run_list made ++ run_list behind)
    (λ rows. swaps_view (rows_items rows) ≡ few ++ swaps_view (rows_items more))
    (λ rows e. ap swaps_view e ∙ swaps_view-append (run_list made) (run_list behind) ∙ ap₂ (λ a b. a ++ b) first second
    ∙ append_assoc few (runs_view more.front.items) (runs_view more.back.items)
    ∙ ap (λ l. few ++ l) (sym (swaps_view-append (run_list more.front.items) (run_list more.back.items))))
    c.of-then-count-le-FEW.ensures
