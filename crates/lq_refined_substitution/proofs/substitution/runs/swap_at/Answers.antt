use Rattle.std.proofs.Common.{◌≡◌, ◌++◌, ◌+◌, ◌-◌, ◌≤◌, drop, length, slice_get, Some, sym, ap, subst, ◌∙◌, append_assoc}
use Rattle.lq_refined_substitution.specs.Substitution.Views.{run_list, run_swaps}
use Rattle.lq_refined_substitution.proofs.SubstitutionLemmas.Sharing.{at-some, drop-at, get-first, get-rest}
use Rattle.lq_refined_substitution.proofs.substitution.runs.swap_at.Goals as goal

pub returns-then-left-swaps : goal.returns-then-left-swaps
returns-then-left-swaps c more =
    let i = c.loop-run.run-index in
    let runs = c.args.runs.now in
    let left = c.loop-run.left in
    let r = c.run-item.result in
    let x = c.index-swaps-left.result in
    let rest = run_list (drop (i + 1) runs) in
    let next = drop-at runs i r (at-some runs i r c.loop-run-test.true c.run-item.is) in
    let here = subst (λ l. slice_get l left ≡ Some x) c.as_slice-swaps.ensures
    (at-some c.as_slice-swaps.result.now left x c.if-left-swaps.true c.index-swaps-left.is) in
    c.loop-run.invariant more ∙ ap (λ l. slice_get (run_list l ++ more) left) next
    ∙ ap (λ l. slice_get l left) (append_assoc (run_swaps r) rest more) ∙ get-first (run_swaps r) (rest ++ more) left x here

pub loop-run-preserved : goal.loop-run-preserved
loop-run-preserved c more =
    let i = c.loop-run.run-index in
    let runs = c.args.runs.now in
    let left = c.loop-run.left in
    let r = c.run-item.result in
    let rest = run_list (drop (i + 1) runs) in
    let next = drop-at runs i r (at-some runs i r c.loop-run-test.true c.run-item.is) in
    let past = subst (λ l. length l ≤ left) c.as_slice-swaps.ensures c.if-left-swaps.false in
    c.loop-run.invariant more ∙ ap (λ l. slice_get (run_list l ++ more) left) next
    ∙ ap (λ l. slice_get l left) (append_assoc (run_swaps r) rest more) ∙ get-rest (run_swaps r) (rest ++ more) left past
    ∙ ap (λ l. slice_get (rest ++ more) (left - length l)) (sym c.as_slice-swaps.ensures)
