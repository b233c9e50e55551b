use Rattle.std.proofs.Common.{◌≡◌, ◌≤◌, ◌++◌, [], filter, length, reverse, take}
use Rattle.lq_refined_templates.specs.Points.Seen.{names_at}
use Rattle.lq_generate_reading.specs.Visibility.Notes.{annotation_view}
use Rattle.lq_generate_reading.specs.Visibility.Stack.{names_view, stacked}
use Rattle.lq_generate_reading.specs.Visibility.Walking.{has_new_text}
use Rattle.lq_generate_reading.proofs.visibility.bound.names_at.Given as goal

abbrev pub invariant-loop-at : goal.invariant-loop-at
invariant-loop-at l =
    let n = annotation_view l.notes in
    record {
      within : l.at ≤ length l.entries;
      is : names_at n (stacked [] l.entries) l.node
          ≡ filter (λ y. has_new_text l.walked.texts.keys (n.text y)) (names_at n (stacked [] (take l.at l.entries)) l.node)
          ++ reverse (names_view l.walked.names.items);
    }

abbrev pub decreases-loop-at : goal.decreases-loop-at
decreases-loop-at l = l.at
