use Rattle.std.proofs.Common.{◌++◌, [], ◌∷◌, sym, ap, ap₂, ◌∙◌}
use Rattle.lq_refined_substitution.specs.Substitution.Restricting.{picked_view}
use Rattle.lq_refined_substitution.specs.Substitution.Views.{swap_view, swaps_view}
use Rattle.lq_refined_substitution.proofs.SubstitutionLemmas.Picking.{copies-kept, whole-kept}
use Rattle.lq_refined_substitution.proofs.SubstitutionLemmas.Sharing.{at-is, at-some, swaps_view-append}
use Rattle.lq_refined_substitution.proofs.substitution.restricting.pick.Goals as goal

pub returns-then-is_kept : goal.returns-then-is_kept
returns-then-is_kept c s e = whole-kept c.args.is_kept c.args.picked c.args.swaps.now c.args.at s c.if-is_kept.true c.in-Whole.is e

pub returns-in_ok-push-in-Copies : goal.returns-in_ok-push-in-Copies
returns-in_ok-push-in-Copies c s e =
    let ss = c.args.swaps.now in
    let k = c.args.at in
    let x = c.index-swaps-at.result in
    let same = at-is ss k x s (at-some ss k x c.requires c.index-swaps-at.is) e in
    copies-kept c.args.is_kept c.args.picked (swaps_view c.push.new.self.items) ss k s c.if-not-is_kept.false
    (ap swaps_view c.in_ok-push-in-Copies.ensures.items ∙ swaps_view-append c.in-Copies.made.items (c.in_ok-copy-in-Copies.field-0 ∷ [])
    ∙ ap₂ (λ a b. a ++ b ∷ []) (sym (ap (λ p. picked_view p ss k) c.in-Copies.is)) (c.in_ok-copy-in-Copies.ensures ∙ ap swap_view same))
