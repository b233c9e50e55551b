use Rattle.std.proofs.Common.{◌++◌, [], slice_get, sym, ap, ◌∙◌}
use Rattle.std.proofs.lemmas.List.{append-nil}
use Rattle.lq_refined_substitution.specs.Substitution.Views.{run_list}
use Rattle.lq_refined_substitution.proofs.substitution.rows.Rows.get.Goals as goal

pub returns-in-Ok-swap_at : goal.returns-in-Ok-swap_at
returns-in-Ok-swap_at c =
    let at = c.args.at in
    let back = run_list c.args.self.now.back.items in
    sym (ap (λ l. slice_get (run_list l ++ back) at) (sym c.deref.ensures.value) ∙ c.in-Err.ensures back
    ∙ ap (λ l. slice_get l c.in-Err.left) (ap run_list (sym c.deref-in-Err.ensures.value) ∙ sym (append-nil (run_list c.deref-in-Err.result.now)))
    ∙ c.in-Ok-swap_at.ensures [])

pub returns-in-Err-swap_at : goal.returns-in-Err-swap_at
returns-in-Err-swap_at c =
    let at = c.args.at in
    let back = run_list c.args.self.now.back.items in
    sym (ap (λ l. slice_get (run_list l ++ back) at) (sym c.deref.ensures.value) ∙ c.in-Err.ensures back
    ∙ ap (λ l. slice_get l c.in-Err.left) (ap run_list (sym c.deref-in-Err.ensures.value) ∙ sym (append-nil (run_list c.deref-in-Err.result.now)))
    ∙ c.in-Err-swap_at.ensures [])
