use Rattle.std.proofs.Common.{◌∷◌, Some, sym, ap, ◌∙◌}
use Rattle.lq_text_tree.specs.PredView.{pred_view}
use Rattle.lq_text_qualifiers.specs.Faults.Complaints.{least_with}
use Rattle.lq_text_qualifiers.specs.Faults.Lookups.{first_in, or_else}
use Rattle.lq_text_qualifiers.specs.Faults.Predicates.{of_spots, spot, spots, uses}
use Rattle.lq_text_qualifiers.specs.Faults.Views.{asked_view, found_view, seen, setting_view, shape_view}
use Rattle.lq_text_qualifiers.specs.Faults.Work.{pending, spots_of_all}
use Rattle.lq_text_qualifiers.proofs.FaultsLemmas.Looking.{Uses, pending_more, used_before, looked_at}
use Rattle.lq_text_qualifiers.proofs.faults.predicate.note_predicate.Goals as goal

pub loop-spot-preserved : goal.loop-spot-preserved
loop-spot-preserved c =
    let s = setting_view c.args.setting.now in
    let all = first_in (uses (spots s (Some (shape_view c.args.asked)) (pred_view c.args.predicate.now))) in
    let a = asked_view c.in-Some.spot.asked in
    let t = pred_view c.in-Some.spot.tree.now in
    let rest = pending c.pop.new.self.items in
    let left = pending c.push_parts.new.left.items in
    let used = seen shape_view c.loop-spot.used in
    let now = seen shape_view c.note_spot.new.used in
    let best = found_view c.loop-spot.least.found in
    let here = ap pending c.in-Some.ensures.items ∙ pending_more c.pop.new.self.items c.in-Some.spot in
    let before : Uses s all used (spot a t ∷ rest) = λ x. ap (λ l. or_else (used x) (first_in (uses (spots_of_all s l)) x)) (sym here) ∙ c.loop-spot.invariant.0 x in (
      used_before s all used now a t rest left c.in_ok-push_parts.ensures c.in_ok-note_spot.ensures.used before,
      looked_at s all used now best _ a t rest left c.in_ok-push_parts.ensures c.in_ok-note_spot.ensures.used before c.in_ok-note_spot.ensures.found
          ∙ ap (λ l. least_with best (of_spots s all (spots_of_all s l))) (sym here) ∙ c.loop-spot.invariant.1,
    )
