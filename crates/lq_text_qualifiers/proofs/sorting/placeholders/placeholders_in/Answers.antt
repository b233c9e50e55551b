use Rattle.std.proofs.Common.{◌++◌, sym, ap, ◌∙◌, arith}
use Rattle.lq_text_tree.specs.PredView.{pred_view}
use Rattle.lq_text_qualifiers.specs.Faults.Predicates.{uses}
use Rattle.lq_text_qualifiers.specs.Faults.Shapes.{bool}
use Rattle.lq_text_qualifiers.specs.Faults.Work.{spots_of_all, total}
use Rattle.lq_text_qualifiers.specs.Sorting.Making.{asking}
use Rattle.lq_text_qualifiers.specs.Sorting.Placeholders.{firsts}
use Rattle.lq_text_qualifiers.specs.Sorting.Views.{asked_view, measured_view, names_in, seen}
use Rattle.lq_text_qualifiers.specs.Sorting.Walking.{found_uses, pending}
use Rattle.lq_text_qualifiers.proofs.SortingLemmas.Looking.{fewer, pending_more, used_over}
use Rattle.lq_text_qualifiers.proofs.sorting.placeholders.placeholders_in.Goals as goal

pub loop-spot-smaller : goal.loop-spot-smaller
loop-spot-smaller c =
    let a = asked_view c.in-Some.spot.asked in
    let t = pred_view c.in-Some.spot.tree.now in
    let rest = pending c.pop.new.self.items in
    let s = asking c.args.names.now (seen measured_view c.args.measures.now) 0 bool in
    let here = ap total (ap pending c.in-Some.ensures.items ∙ pending_more c.pop.new.self.items c.in-Some.spot) in
    let less = fewer s a t rest (pending c.push_parts.new.left.items) (c.in_ok-push_parts.ensures 0 bool) in
    omega (arith, here, less)

pub loop-spot-preserved : goal.loop-spot-preserved
loop-spot-preserved c =
    let a = asked_view c.in-Some.spot.asked in
    let t = pred_view c.in-Some.spot.tree.now in
    let rest = pending c.pop.new.self.items in
    let left = pending c.push_parts.new.left.items in
    let here = ap pending c.in-Some.ensures.items ∙ pending_more c.pop.new.self.items c.in-Some.spot in (
      c.in_ok-note_use.ensures.numbered,
      λ v g. let s = asking c.args.names.now (seen measured_view c.args.measures.now) v g in
          c.in_ok-note_use.ensures.uses (uses (spots_of_all s left))
          ∙ ap (λ l. found_uses c.loop-spot.found ++ firsts (names_in c.loop-spot.found.numbers) l) (used_over s a t rest left (c.in_ok-push_parts.ensures v g))
          ∙ ap (λ l. found_uses c.loop-spot.found ++ firsts (names_in c.loop-spot.found.numbers) (uses (spots_of_all s l))) (sym here)
          ∙ c.loop-spot.invariant.1 v g,
    )
